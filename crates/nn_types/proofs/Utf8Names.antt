-- The names of a path are UTF-8 as its text is.
use Rattle.std.proofs.Common.{ℕ, List, [], ◌∷◌, ◌++◌, length, true, refl, subst, arith, append-nil, length-append}
use Rattle.std.specs.Str.{IsUtf8, is_utf8, IsCharBoundary}
use Rattle.std.specs.List.{list_all}
use Rattle.std.proofs.lemmas.Bool.{and_from, and_parts}
use Rattle.std.proofs.lemmas.Str.Ascii.{IsAscii-nil, IsAscii-cons}
use Rattle.std.proofs.lemmas.Str.{IsUtf8-nil, IsUtf8-append, IsUtf8-from_ascii, IsUtf8-from_is_utf8, IsUtf8-take, IsUtf8-drop, is_utf8-from_IsUtf8, IsCharBoundary-before_ascii, IsCharBoundary-after_ascii}
use Rattle.std.proofs.Math.Seq.{get_or-append_seam, take-append_seam, drop-append_seam}
use Rattle.nn_types.specs.Path.{slash, joined, path_text, AreUtf8}

-- What stands behind a slash is UTF-8, if all is.
behind_slash : (rest : List ℕ) → IsUtf8 (slash ∷ rest) → IsUtf8 rest
behind_slash rest h = IsUtf8-drop (slash ∷ rest) 1 h (IsCharBoundary-after_ascii (slash ∷ rest) 0 h (omega arith) (omega arith))

module _ (name rest : List ℕ) (h : IsUtf8 (name ++ slash ∷ rest)) where
  boundary : IsCharBoundary (name ++ slash ∷ rest) (length name)
  boundary =
      IsCharBoundary-before_ascii (name ++ slash ∷ rest) (length name)
      (omega (arith, length-append name (slash ∷ rest)))
      (omega (arith, get_or-append_seam name slash rest 0))

  before_slash : IsUtf8 name
  before_slash = subst IsUtf8 (take-append_seam name (slash ∷ rest)) (IsUtf8-take _ (length name) h boundary)

  from_slash : IsUtf8 (slash ∷ rest)
  from_slash = subst IsUtf8 (drop-append_seam name (slash ∷ rest)) (IsUtf8-drop _ (length name) h boundary)

names_joined : (names : List (List ℕ)) → IsUtf8 (joined names) → AreUtf8 names
names_joined [] h = refl
names_joined (name ∷ []) h = and_from (is_utf8 name) true (is_utf8-from_IsUtf8 name (subst IsUtf8 (append-nil name) (behind_slash _ h))) refl
names_joined (name ∷ next ∷ names) h =
    let rest : IsUtf8 (name ++ joined (next ∷ names)) = behind_slash _ h in
    and_from (is_utf8 name) (list_all is_utf8 (next ∷ names)) (is_utf8-from_IsUtf8 name (before_slash name _ rest))
    (names_joined (next ∷ names) (from_slash name _ rest))

pub names_of_utf8 : (names : List (List ℕ)) → IsUtf8 (path_text names) → AreUtf8 names
names_of_utf8 [] h = refl
names_of_utf8 (name ∷ names) h = names_joined (name ∷ names) h

slash_utf8 : IsUtf8 (slash ∷ [])
slash_utf8 = IsUtf8-from_ascii (slash ∷ []) (IsAscii-cons slash [] (omega arith) IsAscii-nil)

joined_utf8 : (names : List (List ℕ)) → AreUtf8 names → IsUtf8 (joined names)
joined_utf8 [] h = IsUtf8-nil
joined_utf8 (name ∷ names) h =
    let both = and_parts (is_utf8 name) (list_all is_utf8 names) h in
    IsUtf8-append (slash ∷ []) (name ++ joined names) slash_utf8 (IsUtf8-append name (joined names) (IsUtf8-from_is_utf8 name both.0) (joined_utf8 names both.1))

pub path_text_utf8 : (names : List (List ℕ)) → AreUtf8 names → IsUtf8 (path_text names)
path_text_utf8 [] h = slash_utf8
path_text_utf8 (name ∷ names) h = joined_utf8 (name ∷ names) h
