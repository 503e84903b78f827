-- What each DataNode has, read from its notes.
use Rattle.std.proofs.Common.{◌≡◌, ℕ, zero, suc, ◌-◌, true, false, List, map, refl, sym, ap, ◌∙◌, arith}
use Rattle.std.specs.Prelude.{slice_set, get_or}
use Rattle.std.proofs.Math.ListN.{get_or-map}
use Rattle.std.proofs.lemmas.List.{map-set}
use Rattle.nn_model.specs.Items.{nothing_known}
use Rattle.nn_shadow.specs.Contents.{node_state_in}
use Rattle.nn_shadow.specs.Notes.{Notes, node_state_of}

pub had_at : (hs : List Notes) (i : ℕ) (n : Notes) → n ≡ get_or hs i n → n.having ≡ get_or (map node_state_of hs) i n.having
had_at hs i n is = ap node_state_of is ∙ sym (get_or-map node_state_of hs i n)

pub set_at : (hs : List Notes) (i : ℕ) (new n : Notes) → n ≡ get_or (slice_set hs i new) i n → n.having ≡ get_or (slice_set (map node_state_of hs) i new.having) i n.having
set_at hs i new n is = had_at (slice_set hs i new) i n is ∙ ap (λ l. get_or l i n.having) (map-set node_state_of hs i new)

pub set_twice : (hs : List Notes) (i : ℕ) (new end : Notes) →
    map node_state_of (slice_set (slice_set hs i new) i end) ≡ slice_set (slice_set (map node_state_of hs) i new.having) i end.having
set_twice hs i new end = map-set node_state_of (slice_set hs i new) i end ∙ ap (λ l. slice_set l i end.having) (map-set node_state_of hs i new)

-- what DataNode `dn` has, whose place is one below its number
pub having_at : (hs : List Notes) (dn place : ℕ) (n : Notes) → (dn ≡ 0 → ⊥) → place ≡ dn - 1 → ((d : Notes) → n ≡ get_or hs place d) → n.having ≡ node_state_in (map node_state_of hs) dn
having_at hs zero place n not_zero is at = absurd (not_zero refl)
having_at hs (suc k) place n not_zero is at =
    let nothing : Notes = record { having = nothing_known; room = false; settled = true } in
    let here : place ≡ k = omega (arith, is) in
    ap node_state_of (at nothing) ∙ sym (get_or-map node_state_of hs place nothing) ∙ ap (λ i. get_or (map node_state_of hs) i nothing_known) here
