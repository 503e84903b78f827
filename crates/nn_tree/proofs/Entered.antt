-- The blocks of a file enter the index one after another, and are taken out again.
use Rattle.std.proofs.Common.{inl, inr, ◌≡◌, ℕ, zero, suc, ◌+◌, get_or, take-append-drop, Bool, true, false, cond, not, ◌&&◌, ◌||◌, List, [], ◌∷◌, ◌++◌, map, take, drop, length, ◌<◌, Option, Some, None, refl, sym, ap, ◌∙◌}
use Rattle.std.proofs.option.Match.{None-if_not_some}
use Rattle.std.specs.Prelude.{◌==◌, is_some}
use Rattle.std.proofs.lemmas.List.{take_more, drop_more}
use Rattle.std.specs.Ordering.{nat_cmp, is_eq}
use Rattle.std.proofs.lemmas.Bool.{both_ways, cases_Bool, and_parts, or_left, or_right, or_parts, eqb-true, eq-eqb, ne_eqb}
use Rattle.nn_types.specs.declared.block.Block.{Block}
use Rattle.nn_model.specs.Apply.{has_id}
use Rattle.nn_model.specs.declared.form.BlockRow.{BlockRow}
use Rattle.nn_tree.specs.Entered.{entered, are_new}
use Rattle.nn_tree.proofs.Deleted.{tie}

abbrev pub ids : List Block → List ℕ
ids bs = map (λ b. b.id) bs

pub not_true : (b : Bool) → not b ≡ true → b ≡ false
not_true true e = absurd (both_ways _ refl e)
not_true false e = refl

abbrev row : Bool → Block → BlockRow
row closed b = record { block = b; closed = closed }

-- what the index has of a block
entered_some : (look : ℕ → Option BlockRow) (bs : List Block) (closed : Bool) (q : ℕ) → is_some (entered look bs closed q) ≡ (has_id (ids bs) q || is_some (look q))
entered_some look [] closed q = refl
entered_some look (b ∷ bs) closed q =
    elim (b.id == q) as (λ t. is_some (cond t (Some (row closed b)) (entered look bs closed q)) ≡ ((t || has_id (ids bs) q) || is_some (look q))) [
      | true ↦ refl
      | false ↦ entered_some look bs closed q
    ]

entered_push : (look : ℕ → Option BlockRow) (bs : List Block) (b : Block) (closed : Bool) (q : ℕ) → has_id (ids bs) b.id ≡ false
    → entered look (bs ++ b ∷ []) closed q ≡ cond (b.id == q) (Some (row closed b)) (entered look bs closed q)
entered_push look [] b closed q none = refl
entered_push look (x ∷ bs) b closed q none =
    let parts = or_parts (x.id == b.id) (has_id (ids bs) b.id) none in
    elim (cases_Bool (x.id == q)) [
      | inl here ↦
          let other : (b.id == q) ≡ false = ne_eqb b.id q (λ e. both_ways _ parts.0 (eq-eqb x.id b.id (eqb-true x.id q here ∙ sym e))) in
          rw (here, other) refl
      | inr there ↦ rw there (entered_push look bs b closed q parts.1)
    ]

new_push : (look : ℕ → Option BlockRow) (bs : List Block) (b : Block) → are_new look bs ≡ true → has_id (ids bs) b.id ≡ false → look b.id ≡ None → are_new look (bs ++ b ∷ []) ≡ true
new_push look [] b new none free = rw free refl
new_push look (x ∷ bs) b new none free =
    let parts = and_parts (not (is_some (look x.id)) && not (has_id (ids bs) x.id)) (are_new look bs) new in
    let rest = and_parts (not (is_some (look x.id))) (not (has_id (ids bs) x.id)) parts.0 in
    let both = or_parts (x.id == b.id) (has_id (ids bs) b.id) none in
    rw (rest.0, has_push bs b x.id (not_true _ rest.1) (ne_eqb b.id x.id (λ e. both_ways _ both.0 (eq-eqb x.id b.id (sym e)))), new_push look bs b parts.1 both.1 free) refl
  where
    has_push : (bs : List Block) (b : Block) (i : ℕ) → has_id (ids bs) i ≡ false → (b.id == i) ≡ false → has_id (ids (bs ++ b ∷ [])) i ≡ false
    has_push [] b i none other = rw other refl
    has_push (x ∷ bs) b i none other = let both = or_parts (x.id == i) (has_id (ids bs) i) none in rw (both.0) (has_push bs b i both.1 other)

-- a block that is in the index by now makes the list old
has_middle : (bs : List Block) (b : Block) (more : List Block) → has_id (ids (bs ++ b ∷ more)) b.id ≡ true
has_middle [] b more = or_left (b.id == b.id) (has_id (ids more) b.id) (eq-eqb b.id b.id refl)
has_middle (x ∷ bs) b more = or_right (x.id == b.id) (has_id (ids (bs ++ b ∷ more)) b.id) (has_middle bs b more)

not_new : (look : ℕ → Option BlockRow) (bs : List Block) (b : Block) (more : List Block) (closed : Bool) → is_some (entered look bs closed b.id) ≡ true → are_new look (bs ++ b ∷ more) ≡ false
not_new look [] b more closed there = rw there refl
not_new look (x ∷ bs) b more closed there =
    elim (cases_Bool (x.id == b.id)) [
      | inl here ↦
          let twice : has_id (ids (bs ++ b ∷ more)) x.id ≡ true = ap (has_id (ids (bs ++ b ∷ more))) (eqb-true x.id b.id here) ∙ has_middle bs b more in
          last (not (is_some (look x.id))) (has_id (ids (bs ++ b ∷ more)) x.id) _ twice
      | inr other ↦
          let later : is_some (entered look bs closed b.id) ≡ true = sym (ap (λ t. is_some (cond t (Some (row closed x)) (entered look bs closed b.id))) other) ∙ there in
          rest (not (is_some (look x.id))) (not (has_id (ids (bs ++ b ∷ more)) x.id)) _ (not_new look bs b more closed later)
    ]
  where
    last : (a t c : Bool) → t ≡ true → (a && not t && c) ≡ false
    last true t c e = rw e refl
    last false t c e = refl

    rest : (a t c : Bool) → c ≡ false → (a && t && c) ≡ false
    rest true true c e = e
    rest true false c e = refl
    rest false t c e = refl

-- ---- Taken out again.

pub undone : (look : ℕ → Option BlockRow) (bs : List Block) (closed : Bool) (q : ℕ) → are_new look bs ≡ true → cond (has_id (ids bs) q) None (entered look bs closed q) ≡ look q
undone look [] closed q new = refl
undone look (b ∷ bs) closed q new =
    let parts = and_parts (not (is_some (look b.id)) && not (has_id (ids bs) b.id)) (are_new look bs) new in
    let rest = and_parts (not (is_some (look b.id))) (not (has_id (ids bs) b.id)) parts.0 in
    elim (cases_Bool (b.id == q)) [
      | inl here ↦ ap (λ t. cond (t || has_id (ids bs) q) None (cond t (Some (row closed b)) (entered look bs closed q))) here
          ∙ sym (ap look (sym (eqb-true b.id q here)) ∙ None-if_not_some (look b.id) (not_true _ rest.0))
      | inr other ↦ ap (λ t. cond (t || has_id (ids bs) q) None (cond t (Some (row closed b)) (entered look bs closed q))) other ∙ undone look bs closed q parts.1
    ]

-- ---- One turn of the loop, at the place k.

pub record IsEntering (old now : ℕ → Option BlockRow) (bs : List Block) (closed : Bool) (k : ℕ) : Type 0 where
  pub shows : (q : ℕ) → now q ≡ entered old (take k bs) closed q
  pub new : are_new old (take k bs) ≡ true

ids_take : (k : ℕ) (bs : List Block) → take k (ids bs) ≡ ids (take k bs)
ids_take zero bs = refl
ids_take (suc k) [] = refl
ids_take (suc k) (b ∷ bs) = ap (λ r. b.id ∷ r) (ids_take k bs)

split : (bs : List Block) (k : ℕ) (b : Block) → k < length bs → b ≡ get_or bs k b → bs ≡ take k bs ++ b ∷ drop (k + 1) bs
split bs k b h is = sym (take-append-drop k bs) ∙ ap (λ r. take k bs ++ r) (drop_more bs k b h ∙ ap (λ x. x ∷ drop (k + 1) bs) (sym is))

module _ (old now : ℕ → Option BlockRow) (bs : List Block) (closed : Bool) (k : ℕ) (entering : IsEntering old now bs closed k) where
  -- the blocks so far are taken out again
  pub forgotten : (mid next : ℕ → Option BlockRow) (keys : List ℕ) → keys ≡ ids bs → ((q : ℕ) → mid q ≡ now q) → ((q : ℕ) → next q ≡ cond (has_id (take k keys) q) None (mid q)) → (q : ℕ) → next q ≡ old q
  forgotten mid next keys is same out q =
      out q ∙ (λ j. cond (has_id ((ap (take k) is ∙ ids_take k bs) j) q) None ((same q ∙ entering.shows q) j)) ∙ undone old (take k bs) closed q entering.new

  module _ (b : Block) (within : k < length bs) (is : b ≡ get_or bs k b) where
    pub there_already : is_some (now b.id) ≡ true → are_new old bs ≡ false
    there_already there =
        ap (are_new old) (split bs k b within is) ∙ not_new old (take k bs) b (drop (k + 1) bs) closed (sym (ap is_some (entering.shows b.id)) ∙ there)

    pub one_more : (after : ℕ → Option BlockRow) → is_some (now b.id) ≡ false → ((q : ℕ) → after q ≡ cond (is_eq (nat_cmp b.id q)) (Some (row closed b)) (now q)) → IsEntering old after bs closed (k + 1)
    one_more after none goes =
        let parts = or_parts (has_id (ids (take k bs)) b.id) (is_some (old b.id)) (sym (entered_some old (take k bs) closed b.id) ∙ sym (ap is_some (entering.shows b.id)) ∙ none) in
        let more : take (k + 1) bs ≡ take k bs ++ b ∷ [] = take_more bs k b within ∙ ap (λ x. take k bs ++ x ∷ []) (sym is) in
        record {
          shows = λ q. goes q ∙ (λ j. cond (tie b.id q j) (Some (row closed b)) (entering.shows q j))
              ∙ sym (entered_push old (take k bs) b closed q parts.0) ∙ ap (λ xs. entered old xs closed q) (sym more);
          new = ap (are_new old) more ∙ new_push old (take k bs) b entering.new parts.0 (None-if_not_some (old b.id) parts.1);
        }
