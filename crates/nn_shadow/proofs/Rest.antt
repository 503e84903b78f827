-- What is left of messages that a loop walks over.
use Rattle.std.proofs.Common.{◌≡◌, ℕ, ◌+◌, zero, suc, inl, inr, ◌<◌, ◌≤◌, Bool, true, false, cond, not, List, [], ◌∷◌, ◌++◌, length, drop, get_or, refl, sym, ap, ◌∙◌, arith}
use Rattle.std.specs.Prelude.{filter}
use Rattle.std.specs.List.{list_any}
use Rattle.std.proofs.Math.Seq.{drop-cons}
use Rattle.std.proofs.lemmas.List.{drop_all}
use Rattle.nn_types.specs.declared.report.Message.{Message}
use Rattle.nn_model.specs.WellFormed.{Includes}
use Rattle.nn_replicas.specs.Table.{Replicas}
use Rattle.nn_replicas.specs.Calls.{pair_placed}
use Rattle.nn_postponed.specs.Queues.{is_from}
use Rattle.nn_shadow.specs.Steps.{all_placed, not_held}

pub rest_at : (xs : List Message) (i : ℕ) (x : Message) → i < length xs → x ≡ get_or xs i x → drop i xs ≡ x ∷ drop (i + 1) xs
rest_at xs i x in_range got =
    drop-cons xs i x in_range ∙ (λ j. sym got j ∷ drop (let e : suc i ≡ i + 1 = omega arith in e j) xs)

pub has_at : (xs : List Message) (i : ℕ) (x : Message) → i < length xs → Includes xs (get_or xs i x)
has_at [] i x in_range = absurd (omega (arith, in_range))
has_at (y ∷ xs) zero x in_range = inl refl
has_at (y ∷ xs) (suc i) x in_range = inr (has_at xs i x (omega (arith, in_range)))

pub rest_end : (xs : List Message) (i : ℕ) → length xs ≤ i → drop i xs ≡ []
rest_end xs i past = drop_all i xs past

pub rest_takes : (held xs : List Message) (i : ℕ) (x : Message) → i < length xs → x ≡ get_or xs i x → list_any (is_from x.dn x.block) held ≡ false →
    not_held held (drop i xs) ≡ x ∷ not_held held (drop (i + 1) xs)
rest_takes held xs i x in_range got none =
    ap (not_held held) (rest_at xs i x in_range got)
    ∙ ap (λ t. cond (not t) (x ∷ not_held held (drop (i + 1) xs)) (not_held held (drop (i + 1) xs))) none

pub place_more : (t : Replicas) (ms : List Message) (m : Message) → all_placed t (ms ++ m ∷ []) ≡ pair_placed (all_placed t ms) m.dn m.block
place_more t [] m = refl
place_more t (x ∷ ms) m = place_more (pair_placed t x.dn x.block) ms m

-- those that pass and those that do not are all
pub parts_length : (p : Message → Bool) (ms : List Message) → length (filter p ms) + length (filter (λ m. not (p m)) ms) ≡ length ms
parts_length p [] = refl
parts_length p (m ∷ ms) =
    let rest = parts_length p ms in
    elim (p m) as (λ t. length (cond t (m ∷ filter p ms) (filter p ms)) + length (cond (not t) (m ∷ filter (λ x. not (p x)) ms) (filter (λ x. not (p x)) ms)) ≡ suc (length ms)) [
      | true ↦ omega (arith, rest)
      | false ↦ omega (arith, rest)
    ]
