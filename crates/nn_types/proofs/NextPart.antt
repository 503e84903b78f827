-- The next part of a text, which ends at the first slash or colon.
use Rattle.std.proofs.Common.{◌≡◌, ℕ, suc, ◌+◌, ◌-◌, ◌<◌, ◌≤◌, List, [], ◌∷◌, ◌++◌, length, take, drop, get_or, Bool, true, false, cond, not, nat_lt, ◌&&◌, ◌==◌, ne_eqb, ltb-true, append-nil, refl, sym, ap, ◌∙◌, arith, subst}
use Rattle.std.specs.List.{slice_split, onto_first, list_all, prefix_len, All}
use Rattle.std.proofs.lemmas.Bool.{and_parts, and_left, and_right, not-true, eqb-true, eqb-false, ltb-false}
use Rattle.std.proofs.lemmas.List.{drop_more, drop_all, take_all, length-drop, get_or-drop}
use Rattle.std.proofs.lemmas.List.Sums.{prefix_len_stops}
use Rattle.std.proofs.lemmas.List.Elements.{All-from_recursion}
use Rattle.std.proofs.lemmas.List.Splits.{slice_split_none, slice_split_at, slice_split-cons_no}
use Rattle.nn_types.specs.Path.{slash, is_name_byte, is_name, parts}
use Rattle.nn_types.proofs.Lists.{between_places}
use Rattle.nn_types.proofs.Paths.{cuts, uncut, parts_of_some, some_of_names}

-- ---- the bytes of a name at the beginning of a text

run_more : (p : Bool) (x n : ℕ) (xs : List ℕ) → is_name_byte x ≡ p → list_all is_name_byte (take n xs) ≡ true → list_all is_name_byte (take (cond p (1 + n) 0) (x ∷ xs)) ≡ true
run_more false x n xs e ih = refl
run_more true x n xs e ih =
    let next : suc n ≡ 1 + n = omega arith in
    let both : (is_name_byte x && list_all is_name_byte (take n xs)) ≡ true = rw (e, ih) refl in
    subst (λ k. list_all is_name_byte (take k (x ∷ xs)) ≡ true) next both

-- All before the first slash or colon are bytes of a name.
run : (xs : List ℕ) → list_all is_name_byte (take (prefix_len is_name_byte xs) xs) ≡ true
run [] = refl
run (x ∷ xs) = run_more (is_name_byte x) x (prefix_len is_name_byte xs) xs refl (run xs)

uncut_name : (name : List ℕ) → list_all is_name_byte name ≡ true → All (λ x. cuts x ≡ false) name
uncut_name name e = All-from_recursion (λ x. cuts x ≡ false) name (uncut name e)

-- ---- a colon in the first part

abbrev FirstIsBad : List (List ℕ) → Type 0
FirstIsBad [] = ⊥
FirstIsBad (part ∷ parts) = list_all is_name_byte part ≡ false

bad_first : (parts : List (List ℕ)) → FirstIsBad parts → list_all is_name parts ≡ false
bad_first [] h = absurd h
bad_first (part ∷ parts) h = and_left (is_name part) _ (and_right _ _ h)

begins_badly : (c : ℕ) (parts : List (List ℕ)) → is_name_byte c ≡ false → FirstIsBad (onto_first c parts)
begins_badly c [] e = rw e refl
begins_badly c (part ∷ parts) e = rw e refl

goes_on_badly : (x : ℕ) (parts : List (List ℕ)) → FirstIsBad parts → FirstIsBad (onto_first x parts)
goes_on_badly x [] h = absurd h
goes_on_badly x (part ∷ parts) h = and_right (is_name_byte x) _ h

bad_part : (name : List ℕ) (c : ℕ) (rest : List ℕ) → list_all is_name_byte name ≡ true → is_name_byte c ≡ false → cuts c ≡ false → FirstIsBad (slice_split cuts (name ++ c ∷ rest))
bad_part [] c rest e bad no_slash = subst FirstIsBad (sym (slice_split-cons_no cuts c rest no_slash)) (begins_badly c (slice_split cuts rest) bad)
bad_part (x ∷ xs) c rest e bad no_slash =
    let p = and_parts (is_name_byte x) _ e in
    let here : cuts x ≡ false = not-true _ (and_parts (not (x == slash)) _ p.0).0 in
    subst FirstIsBad (sym (slice_split-cons_no cuts x (xs ++ c ∷ rest) here)) (goes_on_badly x (slice_split cuts (xs ++ c ∷ rest)) (bad_part xs c rest p.1 bad no_slash))

-- ---- the part from `start` to `end`

module _ (d : List ℕ) (start end : ℕ) (is : end ≡ start + prefix_len is_name_byte (drop start d)) where
  abbrev name : List ℕ
  name = take (end - start) (drop start d)

  len : end - start ≡ prefix_len is_name_byte (drop start d)
  len = omega (arith, is)

  pub name_bytes : list_all is_name_byte (take (end - start) (drop start d)) ≡ true
  name_bytes = subst (λ k. list_all is_name_byte (take k (drop start d)) ≡ true) (sym len) (run (drop start d))

  split_here : drop start d ≡ name ++ drop end d
  split_here = between_places d start end (omega (arith, is))

  -- Nothing comes after it.
  pub last_part : length d ≤ end → slice_split cuts (drop start d) ≡ take (end - start) (drop start d) ∷ []
  last_part h =
      let whole : drop start d ≡ name = split_here ∙ ap (λ t. name ++ t) (drop_all end d h) ∙ append-nil _ in
      ap (slice_split cuts) whole ∙ slice_split_none cuts name (uncut_name _ name_bytes)

  -- A slash comes after it.
  pub next_part : end < length d → get_or d end 0 ≡ 47 → slice_split cuts (drop start d) ≡ take (end - start) (drop start d) ∷ slice_split cuts (drop (end + 1) d)
  next_part h e =
      ap (slice_split cuts) (split_here ∙ ap (λ t. name ++ t) (drop_more d end 0 h ∙ ap (λ x. x ∷ drop (end + 1) d) e))
      ∙ slice_split_at cuts name 47 (drop (end + 1) d) (uncut_name _ name_bytes) refl

  -- A colon comes after it.
  pub colon_there : end < length d → (get_or d end 0 ≡ 47 → ⊥) → list_all is_name (slice_split cuts (drop start d)) ≡ false
  colon_there h other =
      let k = prefix_len is_name_byte (drop start d) in
      let long : length (drop start d) ≡ length d - start = length-drop start d in
      let there : get_or (drop start d) k 0 ≡ get_or d end 0 = get_or-drop start d k 0 ∙ ap (λ j. get_or d j 0) (sym is) in
      let stops : is_name_byte (get_or d end 0) ≡ false = ap is_name_byte (sym there) ∙ prefix_len_stops is_name_byte (drop start d) 0 (omega (arith, h, is, long)) in
      ap (λ t. list_all is_name (slice_split cuts t)) (split_here ∙ ap (λ t. name ++ t) (drop_more d end 0 h))
      ∙ bad_first _ (bad_part name (get_or d end 0) (drop (end + 1) d) name_bytes stops (ne_eqb (get_or d end 0) 47 other))

  -- It is no name, whatever comes after it.
  pub no_name : is_name (take (end - start) (drop start d)) ≡ false → list_all is_name (slice_split cuts (drop start d)) ≡ false
  no_name bad = ends (nat_lt end (length d)) refl
    where
      cut : (b : Bool) → (get_or d end 0 == 47) ≡ b → end < length d → list_all is_name (slice_split cuts (drop start d)) ≡ false
      cut true e h = ap (list_all is_name) (next_part h (eqb-true _ 47 e)) ∙ and_left (is_name name) _ bad
      cut false e h = colon_there h (eqb-false _ 47 e)

      ends : (b : Bool) → nat_lt end (length d) ≡ b → list_all is_name (slice_split cuts (drop start d)) ≡ false
      ends true h = cut (get_or d end 0 == 47) refl (ltb-true end _ h)
      ends false h = ap (list_all is_name) (last_part (omega (arith, ltb-false end _ h))) ∙ and_left (is_name name) _ bad

-- ---- the first name of a text

-- A slash comes after it, and only names after that.
pub record FirstPart (d : List ℕ) (end : ℕ) : Type 0 where
  pub slash_there : get_or d end 0 ≡ 47
  pub cut : parts d ≡ take (end - 0) d ∷ parts (drop (end + 1) d)
  pub rest : list_all is_name (parts (drop (end + 1) d)) ≡ true

pub first_part : (d : List ℕ) (end : ℕ) → end ≡ prefix_len is_name_byte d → list_all is_name (parts d) ≡ true → (length d == 0) ≡ false → end < length d → FirstPart d end
first_part d end is each filled h = at (get_or d end 0 == 47) refl
  where
    split : parts d ≡ slice_split cuts d
    split = parts_of_some d filled

    at : (b : Bool) → (get_or d end 0 == 47) ≡ b → FirstPart d end
    at true e =
        let next : slice_split cuts d ≡ take (end - 0) d ∷ slice_split cuts (drop (end + 1) d) = next_part d 0 end (omega (arith, is)) h (eqb-true _ 47 e) in
        let later : list_all is_name (slice_split cuts (drop (end + 1) d)) ≡ true = (and_parts (is_name (take (end - 0) d)) _ (ap (list_all is_name) (sym (split ∙ next)) ∙ each)).1 in
        let same = some_of_names (drop (end + 1) d) later in
        record { slash_there = eqb-true _ 47 e; cut = split ∙ next ∙ ap (λ r. take (end - 0) d ∷ r) (sym same); rest = ap (list_all is_name) same ∙ later }
    at false e =
        let bad : list_all is_name (parts d) ≡ false = ap (list_all is_name) split ∙ colon_there d 0 end (omega (arith, is)) h (eqb-false _ 47 e) in
        absurd (cc)

-- Nothing comes after it.
pub only_part : (d : List ℕ) (end : ℕ) → end ≡ prefix_len is_name_byte d → (length d == 0) ≡ false → length d ≤ end → parts d ≡ d ∷ []
only_part d end is filled h =
    let last : slice_split cuts d ≡ take (end - 0) d ∷ [] = last_part d 0 end (omega (arith, is)) h in
    parts_of_some d filled ∙ last ∙ ap (λ t. t ∷ []) (take_all (end - 0) d (omega (arith, h)))
