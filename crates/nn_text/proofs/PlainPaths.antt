-- A path that JSON writes as it is.
use Rattle.std.proofs.Common.{◌≡◌, ℕ, ◌+◌, ◌-◌, ◌<◌, ◌≤◌, true, List, [], ◌∷◌, ◌++◌, length, take, drop, set, refl, sym, ap, ◌∙◌, arith, append_assoc, length-append, take-take}
use Rattle.std.specs.Prelude.{flat_map}
use Rattle.std.specs.Borrow.{Bor}
use Rattle.std.specs.Map.Iter.{deref}
use Rattle.std.proofs.Math.Seq.{drop-append_seam}
use Rattle.std.proofs.lemmas.List.{drop-take, length-take-le, take-append-le, take_more_set}
use Rattle.std.proofs.lemmas.List.Folds.{flat_map-map}
use Rattle.json.specs.Print.{escape}
use Rattle.serde_json.specs.Data.{string}
use Rattle.serde_json.specs.Written.{compact_text}
use Rattle.nn_types.specs.Path.{path_text}
use Rattle.nn_tree.specs.Listing.{lent_names}
use Rattle.nn_text.specs.Plain.{is_plain, slashed}
use Rattle.nn_text.proofs.PlainNames.{escape_plain}

abbrev slashed_names : List (Bor (List ℕ)) → List ℕ
slashed_names names = flat_map (λ n. slashed (deref n)) names

names_text : (names : List (Bor (List ℕ))) → (names ≡ [] → ⊥) → slashed_names names ≡ path_text (lent_names names)
names_text [] some = absurd (some refl)
names_text (name ∷ names) some = sym (flat_map-map slashed deref (name ∷ names))

-- bytes that are written behind a place leave those before it
kept : (end : ℕ) (now next more : List ℕ) → end ≤ length now → take (end + 16) next ≡ take end now ++ more → take end next ≡ take end now
kept end now next more within filled =
    sym (take-take end (end + 16) next (omega arith)) ∙ ap (take end) filled
    ∙ take-append-le end (take end now) more (omega (arith, length-take-le end now within)) ∙ take-take end end now (omega arith)

-- a quote, the names, what was written behind them for the look, and a quote in its place
pub plain_path : (used end : ℕ) (room named padded more : List ℕ) (names : List (Bor (List ℕ))) → used < length room → used + 1 ≤ end → end ≤ length named → end < length padded
    → (names ≡ [] → ⊥) → take end named ≡ take (used + 1) (set room used 34) ++ slashed_names names → take (end + 16) padded ≡ take end named ++ more
    → is_plain (take (end - (used + 1)) (drop (used + 1) padded)) ≡ true
    → take (end + 1) (set padded end 34) ≡ take used room ++ compact_text (string (path_text (lent_names names)))
plain_path used end room named padded more names in_room order in_named in_padded some named_is padded_is told =
    let start = used + 1 in
    let n = end - start in
    let front = take used room ++ 34 ∷ [] in
    let text = slashed_names names in
    let quote : take start (set room used 34) ≡ front = take_more_set room used 34 in_room in
    let whole : take end padded ≡ front ++ text = kept end named padded more in_named padded_is ∙ named_is ∙ ap (λ l. l ++ text) quote in
    let long : length front ≡ start = length-append (take used room) (34 ∷ []) ∙ ap (λ k. k + 1) (length-take-le used room (omega (arith, in_room))) in
    let to_end : start + n ≡ end = omega (arith, order) in
    let part : take n (drop start padded) ≡ text =
    sym (drop-take start n padded) ∙ ap (λ k. drop start (take k padded)) to_end ∙ ap (drop start) whole ∙ ap (λ k. drop k (front ++ text)) (sym long) ∙ drop-append_seam front text in
    let as_is : escape text ≡ text = escape_plain text (ap is_plain (sym part) ∙ told) in
    take_more_set padded end 34 in_padded ∙ ap (λ l. l ++ 34 ∷ []) whole ∙ append_assoc front text (34 ∷ []) ∙ append_assoc (take used room) (34 ∷ []) (text ++ 34 ∷ [])
    ∙ ap (λ t. take used room ++ 34 ∷ (t ++ 34 ∷ [])) (sym as_is) ∙ ap (λ t. take used room ++ 34 ∷ (escape t ++ 34 ∷ [])) (names_text names some)
