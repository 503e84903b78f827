-- The index after a delete.
use Rattle.std.proofs.Common.{inl, inr, ◌≡◌, ℕ, Bool, true, false, cond, not, ◌||◌, List, [], ◌∷◌, ◌++◌, length, drop, map, Option, Some, None, refl, sym, ap, subst, ◌∙◌}
use Rattle.std.specs.Prelude.{◌==◌}
use Rattle.std.specs.List.{list_any}
use Rattle.std.specs.Ordering.{is_eq, nat_cmp}
use Rattle.std.specs.FinMap.{nat_cmp-IsAntisymmetric}
use Rattle.std.specs.FinMap.Entries.{is_sorted, below_all}
use Rattle.std.proofs.lemmas.Cmp.{nat_cmp_total, tied_itself}
use Rattle.std.proofs.lemmas.Bool.{both_ways, cases_Bool, and_parts, eqb-true, eq-eqb, or_left, or_right, false_from_ne_true}
use Rattle.nn_types.specs.declared.block.Block.{Block}
use Rattle.nn_types.specs.declared.edit.Edit.TheVariants as edit
use Rattle.nn_types.specs.LawfulEdit.{IsTypedEdit}
use Rattle.nn_model.proofs.Utf8Names.{names_stay_utf8}
use Rattle.nn_model.proofs.Trees.{stays_well_formed}
use Rattle.nn_model.specs.Namespace.{Namespace, path_cmp, lookup, blocks_of, begins_with}
use Rattle.nn_model.specs.Apply.{refusal, effect, has_id}
use Rattle.nn_model.specs.WellFormed.{Includes, HasWellFormedBlocks, IsWellFormed, HasUtf8Names}
use Rattle.nn_model.proofs.Wells.{blocks_of_found, not_below}
use Rattle.nn_model.proofs.Lookups.{find_in_order}
use Rattle.nn_model.specs.declared.form.Form.{Form}
use Rattle.nn_model.specs.Namespace.{Path, Issued}
use Rattle.nn_tree.specs.At.{at, IsSubtree, IsGrafted}
use Rattle.nn_tree.specs.Ids.{ids_of_rows, row_ids}
use Rattle.nn_model.specs.declared.form.BlockRow.{BlockRow}
use Rattle.nn_tree.specs.View.{seen, IsIndex, IsKept}
use Rattle.nn_model.proofs.Prefixes.{equal, same, same_true, same_self, begins_append, begins_split}
use Rattle.nn_tree.proofs.Maps.{graft_gone}
use Rattle.nn_tree.proofs.Edited.{gone_there}
use Rattle.nn_tree.proofs.Indexed.{old_blocks, apart}

pub tie : (i k : ℕ) → is_eq (nat_cmp i k) ≡ (i == k)
tie i k = elim (cases_Bool (i == k)) [
  | inl h ↦ ap (λ x. is_eq (nat_cmp i x)) (sym (eqb-true i k h)) ∙ ap is_eq (tied_itself nat_cmp_total i) ∙ sym h
  | inr h ↦ false_from_ne_true (is_eq (nat_cmp i k)) (λ e. both_ways _ h (eq-eqb i k (nat_cmp-IsAntisymmetric i k (equal (nat_cmp i k) e)))) ∙ sym h
]

pub any_append : (p : ℕ → Bool) (xs ys : List ℕ) → list_any p (xs ++ ys) ≡ (list_any p xs || list_any p ys)
any_append p [] ys = refl
any_append p (x ∷ xs) ys = elim (p x) as (λ b. (b || list_any p (xs ++ ys)) ≡ ((b || list_any p xs) || list_any p ys)) [ true ↦ refl | false ↦ any_append p xs ys ]

id_here : (bs : List Block) (x : Block) → Includes bs x → has_id (map (λ b. b.id) bs) x.id ≡ true
id_here [] x h = absurd h
id_here (b ∷ bs) x (inl e) = or_left (b.id == x.id) (has_id (map (λ c. c.id) bs) x.id) (eq-eqb b.id x.id (ap (λ c. c.id) e))
id_here (b ∷ bs) x (inr h) = or_right (b.id == x.id) (has_id (map (λ c. c.id) bs) x.id) (id_here bs x h)

here_id : (bs : List Block) (id : ℕ) → has_id (map (λ b. b.id) bs) id ≡ true → (x : Block) × Includes bs x × (x.id ≡ id)
here_id [] id h = absurd (both_ways _ refl h)
here_id (b ∷ bs) id h =
    elim (cases_Bool (b.id == id)) [
      | inl e ↦ (b, inl refl, eqb-true b.id id e)
      | inr e ↦ (let r = here_id bs id (sym (ap (λ k. k || has_id (map (λ c. c.id) bs) id) e) ∙ h) in (r.0, inr r.1, r.2))
    ]

-- the ids of the blocks in a list of rows
pub of_ids : (es : List (Path × Form)) (q : Path) (r : Form) (x : Block) → at es q ≡ Some r → Includes (blocks_of r) x → has_id (ids_of_rows es) x.id ≡ true
of_ids [] q r x e h = absurd (cc)
of_ids (c ∷ es) q r x e h =
    any_append (λ i. i == x.id) (row_ids c.1) (ids_of_rows es)
    ∙ elim (cases_Bool (same q c.0)) [
      | inl at_c ↦
          (let v : Some c.1 ≡ Some r = sym (ap (λ b. cond b (Some c.1) (at es q)) at_c) ∙ e in
          let w : c.1 ≡ r = cc in
          or_left (has_id (row_ids c.1) x.id) (has_id (ids_of_rows es) x.id) (id_here (blocks_of c.1) x (subst (λ s. Includes (blocks_of s) x) (sym w) h)))
      | inr later ↦ or_right (has_id (row_ids c.1) x.id) (has_id (ids_of_rows es) x.id) (of_ids es q r x (sym (ap (λ b. cond b (Some c.1) (at es q)) later) ∙ e) h)
    ]

pub in_ids : (es : List (Path × Form)) (id : ℕ) → is_sorted path_cmp es ≡ true → has_id (ids_of_rows es) id ≡ true → (q : Path) × (r : Form) × (x : Block) × (at es q ≡ Some r) × Includes (blocks_of r) x × (x.id ≡ id)
in_ids [] id s h = absurd (both_ways _ refl h)
in_ids (c ∷ es) id s h =
    let parts = and_parts (below_all path_cmp c.0 es) (is_sorted path_cmp es) s in
    elim (cases_Bool (has_id (row_ids c.1) id)) [
      | inl first ↦ (let x = here_id (blocks_of c.1) id first in (c.0, c.1, x.0, ap (λ b. cond b (Some c.1) (at es c.0)) (same_self c.0), x.1, x.2))
      | inr other ↦
          (let w = in_ids es id parts.1 (sym (ap (λ b. b || has_id (ids_of_rows es) id) other) ∙ sym (any_append (λ i. i == id) (row_ids c.1) (ids_of_rows es)) ∙ h) in
          let off : same w.0 c.0 ≡ false = false_from_ne_true (same w.0 c.0) (λ e. let n : at es w.0 ≡ None = ap (at es) (same_true w.0 c.0 e) ∙ not_below c.0 es parts.0 in (cc (n, w.3))) in
          (w.0, w.1, w.2, ap (λ b. cond b (Some c.1) (at es w.0)) off ∙ w.3, w.4, w.5))
    ]

kept_row : (b : Bool) (o : Option Form) (r : Form) → cond (not b) o None ≡ Some r → (b ≡ false) × (o ≡ Some r)
kept_row true o r h = cc
kept_row false o r h = (refl, h)

pub index_deleted : (n : Namespace) (g : Path → Option Form) (p : Path) (t : List (Path × Form)) (look next : ℕ → Option BlockRow) → HasWellFormedBlocks n → ((q : Path) → g q ≡ cond (not (begins_with p q)) (lookup n q) None) → ((q : Path) → lookup n (p ++ q) ≡ at t q) →
    is_sorted path_cmp t ≡ true → ((id : ℕ) → next id ≡ cond (has_id (ids_of_rows t) id) None (look id)) → IsIndex (lookup n) look → IsIndex g next
index_deleted n g p t look next w e sub sorted goes x = record {
  sound = λ id b h.
      elim (cases_Bool (has_id (ids_of_rows t) id)) [
        | inl out ↦ absurd (let none : next id ≡ None = goes id ∙ ap (λ k. cond k None (look id)) out in (cc (none, h)))
        | inr stays ↦
            (let s = x.sound id b (sym (goes id ∙ ap (λ k. cond k None (look id)) stays) ∙ h) in
            let q = s.1.0 in (
              s.0,
              (
                q,
                s.1.1,
                e q ∙ ap (λ k. cond (not k) (lookup n q) None) (false_from_ne_true (begins_with p q) (λ below. both_ways _ stays (subst (λ i. has_id (ids_of_rows t) i ≡ true) s.0
                    (of_ids t (drop (length p) q) s.1.1 b.block (sym (sub (drop (length p) q)) ∙ ap (lookup n) (sym (begins_split p q below)) ∙ s.1.2) s.1.3.1)))) ∙ s.1.2,
                s.1.3,
              ),
            ))
      ];
  complete = λ b s.
      let k = kept_row (begins_with p s.0) (lookup n s.0) s.1 (sym (e s.0) ∙ s.2) in
      goes b.block.id
      ∙ ap (λ o. cond o None (look b.block.id)) (false_from_ne_true (has_id (ids_of_rows t) b.block.id) (λ out.
      let v = in_ids t b.block.id sorted out in
      let at_p : lookup n (p ++ v.0) ≡ Some v.1 = sub v.0 ∙ v.3 in
      let one = apart n (p ++ v.0) s.0 v.2 s.1 b.block w (subst (λ o. Includes (old_blocks o) v.2) (sym at_p) (subst (λ bs. Includes bs v.2) (sym (blocks_of_found v.1)) v.4)) k.1 s.3.1 (sym v.5) in
      both_ways _ k.0 (ap (begins_with p) (same_true s.0 (p ++ v.0) one) ∙ begins_append p v.0)))
      ∙ x.complete b (s.0, s.1, k.1, s.3);
}

pub deleted_seen : (es new : List (Path × Form)) (issued : Issued) (p ns : Path) → ns ≡ p → IsGrafted es ns None new → seen new issued ≡ effect (seen es issued) (edit.Delete p)
deleted_seen es new issued p ns e h = ap (λ x. record { rows = x; issued = issued }) (gone_there es new p (λ q. subst (λ (s : Path). at new q ≡ Rattle.nn_tree.specs.At.grafted (at es) s (Rattle.nn_tree.specs.At.rows None) q) e (h q)))

pub delete_kept : (es new t : List (Path × Form)) (issued : Issued) (ids : List ℕ) (look next : ℕ → Option BlockRow) (p ns : Path) → ns ≡ p → IsTypedEdit (edit.Delete p) → refusal (seen es issued) (edit.Delete p) ≡ None → IsGrafted es ns None new → IsSubtree es ns (Some t) → is_sorted path_cmp t ≡ true → ids ≡ ids_of_rows t →
    ((id : ℕ) → next id ≡ cond (has_id ids id) None (look id)) → IsKept (seen es issued) look → IsKept (seen new issued) next
delete_kept es new t issued ids look next p ns e l lawful h sub sorted is goes k =
    let n = seen es issued in
    record {
      well = subst IsWellFormed (sym (deleted_seen es new issued p ns e h)) (stays_well_formed n (edit.Delete p) l.0 lawful k.well);
      utf8 = subst HasUtf8Names (sym (deleted_seen es new issued p ns e h)) (names_stay_utf8 n (edit.Delete p) l.1 lawful k.well k.utf8);
      index = index_deleted n (lookup (seen new issued)) ns t look next k.well.blocks
          (λ q. find_in_order q new ∙ h q ∙ graft_gone (at es) ns q ∙ ap (λ o. cond (not (begins_with ns q)) o None) (sym (find_in_order q es)))
          (λ q. find_in_order (ns ++ q) es ∙ sub q) sorted (λ id. goes id ∙ ap (λ (x : List ℕ). cond (has_id x id) None (look id)) is) k.index;
    }

-- ---- ids taken out of the index in turn
both_none : (b : Bool) → ◌≡◌ {A = Option BlockRow} (cond b None None) None
both_none true = refl
both_none false = refl

one_false : (b : Bool) (o : Option BlockRow) → cond b None o ≡ cond (b || false) None o
one_false true o = refl
one_false false o = refl

pub out_one : (xs : List ℕ) (x q : ℕ) (look mid next : ℕ → Option BlockRow) → mid q ≡ cond (has_id xs q) None (look q) → next q ≡ cond (is_eq (nat_cmp x q)) None (mid q) → next q ≡ cond (has_id (xs ++ x ∷ []) q) None (look q)
out_one xs x q look mid next h k =
    k ∙ (λ j. cond (tie x q j) None (h j))
    ∙ elim (cases_Bool (has_id xs q)) [
      | inl a ↦ ap (λ b. cond (x == q) None (cond b None (look q))) a ∙ both_none (x == q) ∙ sym (ap (λ b. cond b None (look q)) (any_append (λ i. i == q) xs (x ∷ []) ∙ ap (λ b. b || ((x == q) || false)) a))
      | inr a ↦ ap (λ b. cond (x == q) None (cond b None (look q))) a ∙ one_false (x == q) (look q) ∙ sym (ap (λ b. cond b None (look q)) (any_append (λ i. i == q) xs (x ∷ []) ∙ ap (λ b. b || ((x == q) || false)) a))
    ]
