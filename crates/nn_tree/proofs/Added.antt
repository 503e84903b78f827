-- The index after a block was added.
use Rattle.std.proofs.Common.{inl, inr, ◌≡◌, ℕ, true, false, cond, not, List, [], ◌∷◌, ◌++◌, Option, Some, None, refl, sym, ap, subst, ◌∙◌}
use Rattle.std.specs.Prelude.{◌==◌, filter}
use Rattle.std.specs.Ordering.{is_eq, nat_cmp}
use Rattle.std.proofs.lemmas.Bool.{both_ways, cases_Bool, eqb-true, eq-eqb, ne_eqb, not-false}
use Rattle.nn_types.specs.declared.block.Block.{Block}
use Rattle.nn_types.specs.declared.edit.Edit.TheVariants as edit
use Rattle.nn_types.specs.LawfulEdit.{IsTypedEdit}
use Rattle.nn_model.proofs.Utf8Names.{names_stay_utf8}
use Rattle.nn_model.proofs.Trees.{stays_well_formed}
use Rattle.nn_model.specs.declared.form.Form.TheVariants.{File}
use Rattle.nn_model.specs.declared.form.FileRow.{FileRow}
use Rattle.nn_model.specs.Namespace.{Namespace, lookup, with_row, all_blocks, file_at, file_or_none}
use Rattle.nn_model.specs.Apply.{refusal, effect, checks, has_id}
use Rattle.nn_model.specs.WellFormed.{Includes}
use Rattle.nn_model.proofs.Dues.{all_none, when_none, has_left, has_right, has_either, file_has}
use Rattle.nn_model.proofs.Wells.{blocks_of_found}
use Rattle.nn_model.specs.declared.form.Form.{Form}
use Rattle.nn_model.specs.Namespace.{Path, Issued}
use Rattle.nn_tree.specs.At.{IsSubtree, IsGrafted}
use Rattle.nn_model.specs.declared.form.BlockRow.{BlockRow}
use Rattle.nn_tree.specs.View.{seen, IsInSomeFile, IsKept}
use Rattle.nn_tree.proofs.Deleted.{tie}
use Rattle.nn_tree.proofs.Indexed.{old_blocks, apart}
use Rattle.nn_tree.proofs.Kept.{put_index, file_seen, file_was}

-- ---- the index
pub waits : (n : Namespace) (p : Path) (i stamp : ℕ) → refusal n (edit.AddBlock p i stamp) ≡ None → has_id n.issued.awaiting i ≡ true
waits n p i stamp lawful = let a = all_none (checks n (edit.AddBlock p i stamp)) lawful in not-false _ (when_none _ _ a.1.1.1.1.1.0)

pub open_file : (n : Namespace) (p : Path) (i stamp : ℕ) → refusal n (edit.AddBlock p i stamp) ≡ None → (file_at n p).closed ≡ false
open_file n p i stamp lawful = let a = all_none (checks n (edit.AddBlock p i stamp)) lawful in when_none _ _ a.1.1.1.1.0

pub stands_in : (n : Namespace) (b : BlockRow) → IsInSomeFile (lookup n) b → Includes (all_blocks n) b.block
stands_in n b s = file_has s.0 n.rows b.block (subst (λ o. Includes (old_blocks o) b.block) (sym s.2) (subst (λ bs. Includes bs b.block) (sym (blocks_of_found s.1)) s.3.1))

pub not_yet : (n : Namespace) (i : ℕ) (look : ℕ → Option BlockRow) → has_id n.issued.awaiting i ≡ true → IsKept n look → look i ≡ None
not_yet n i look waiting k =
    elim (look i) as (λ o. look i ≡ o → o ≡ None) [
      | None ↦ λ e. refl
      | Some b ↦ λ e. let s = k.index.sound i b e in
          let is = k.well.blocks.issued b.block (stands_in n b s.1) in
          absurd (both_ways _ (subst (λ j. has_id n.issued.awaiting j ≡ false) s.0 is.not_awaiting) waiting)
    ] refl

pub add_block_kept : (n : Namespace) (p : Path) (i stamp : ℕ) (x : FileRow) (look next : ℕ → Option BlockRow) → IsTypedEdit (edit.AddBlock p i stamp) → refusal n (edit.AddBlock p i stamp) ≡ None → lookup n p ≡ Some (File x) →
    ((q : ℕ) → next q ≡ cond (i == q) (Some (record { block = record { id = i; stamp = stamp; len = 0 }; closed = false })) (look q)) → IsKept n look → IsKept (effect n (edit.AddBlock p i stamp)) next
add_block_kept n p i stamp x look next l lawful was goes k =
    let b : Block = record { id = i; stamp = stamp; len = 0 } in
    let row : BlockRow = record { block = b; closed = false } in
    let f = file_at n p in
    let y : FileRow = record { replication = f.replication; closed = false; blocks = f.blocks ++ b ∷ [] } in
    let none = not_yet n i look (waits n p i stamp lawful) k in
    let is_open : x.closed ≡ false = sym (ap (λ o. (file_or_none o).closed) was) ∙ open_file n p i stamp lawful in
    let new : (c : BlockRow) → IsInSomeFile (lookup n) c → c.block.id ≡ i → ⊥ = λ c s e. (let here = k.index.complete c s in let there : look c.block.id ≡ None = ap look e ∙ none in (cc (here, there))) in
    record {
      well = stays_well_formed n (edit.AddBlock p i stamp) l.0 lawful k.well;
      utf8 = names_stay_utf8 n (edit.AddBlock p i stamp) l.1 lawful k.well k.utf8;
      index = put_index n p (File y) look next (record {
        own = λ z here c q r at_q in_row is. elim here [
          | inl added ↦ elim (has_either f.blocks (b ∷ []) z added) [
            | inl old ↦ apart n p q z r c.block k.well.blocks old at_q in_row.1 is
            | inr last ↦ elim last [ inl e ↦ absurd (new c (q, r, at_q, in_row) (is ∙ sym (ap (λ w. w.id) e))) | inr no_more ↦ absurd no_more ]
          ]
          | inr old ↦ apart n p q z r c.block k.well.blocks old at_q in_row.1 is
        ];
        written = λ c h. elim (has_either f.blocks (b ∷ []) c.block h.1) [
          | inl old ↦
              (let stands : IsInSomeFile (lookup n) c = (p, File x, was, (h.0 ∙ sym is_open, subst (λ o. Includes (old_blocks o) c.block) was old)) in
              goes c.block.id ∙ ap (λ t. cond t (Some row) (look c.block.id)) (ne_eqb i c.block.id (λ e. new c stands (sym e))) ∙ k.index.complete c stands)
          | inr last ↦ elim last [
            | inl e ↦
                (let is : row ≡ c = (λ j. record { block = e j; closed = sym h.0 j }) in
                goes c.block.id ∙ ap (λ t. cond t (Some row) (look c.block.id)) (eq-eqb i c.block.id (ap (λ w. w.id) e)) ∙ ap Some is)
            | inr no_more ↦ absurd no_more
          ]
        ];
        kept = λ id away before. goes id ∙ ap (λ t. cond t (Some row) (look id)) (ne_eqb i id (away b (has_right f.blocks (b ∷ []) b (inl refl))));
        gone = λ z old away. absurd (away z (has_left f.blocks (b ∷ []) z old) refl);
      }) k.index;
    }

-- ---- what is seen
pub add_block_seen : (es new : List (Path × Form)) (issued : Issued) (p ns : Path) (i g : ℕ) (x y : FileRow) → ns ≡ p → IsSubtree es ns (Some (([], File x) ∷ [])) → IsGrafted es ns (Some (([], File y) ∷ [])) new →
    y ≡ record { replication = x.replication; closed = false; blocks = x.blocks ++ record { id = i; stamp = g; len = 0 } ∷ [] } →
    seen new (record { last_block = issued.last_block; last_stamp = issued.last_stamp; awaiting = filter (λ k. not (k == i)) issued.awaiting; profile = issued.profile }) ≡ effect (seen es issued) (edit.AddBlock p i g)
add_block_seen es new issued p ns i g x y e h k yx =
    let s = seen es issued in
    let was : x ≡ file_at s p = sym (ap file_or_none (file_was es issued p ns x e h)) in
    let after : Namespace → Namespace = λ n. record n { issued = record n.issued { awaiting = filter (λ k. not (k == i)) n.issued.awaiting } } in
    ap after (file_seen es new issued p ns x y e h k
    ∙ ap (λ (f : FileRow). with_row s p (File f)) yx
    ∙ ap (λ (f : FileRow). with_row s p (File (record { replication = f.replication; closed = false; blocks = f.blocks ++ record { id = i; stamp = g; len = 0 } ∷ [] }))) was)

pub kept_looks : (n : Namespace) (look next : ℕ → Option BlockRow) → ((id : ℕ) → next id ≡ look id) → IsKept n look → IsKept n next
kept_looks n look next h k = subst (λ (f : ℕ → Option BlockRow). IsKept n f) (λ j id. sym (h id) j) k

-- an entry that was put in and taken out again
pub undone : (i : ℕ) (row : BlockRow) (look mid next : ℕ → Option BlockRow) → look i ≡ None → ((q : ℕ) → mid q ≡ cond (is_eq (nat_cmp i q)) (Some row) (look q)) → ((q : ℕ) → next q ≡ cond (is_eq (nat_cmp i q)) None (mid q)) → (q : ℕ) → next q ≡ look q
undone i row look mid next none h k q =
    k q ∙ ap (λ b. cond b None (mid q)) (tie i q)
    ∙ elim (cases_Bool (i == q)) [
      | inl e ↦ ap (λ b. cond b None (mid q)) e ∙ sym (sym (ap look (eqb-true i q e)) ∙ none)
      | inr e ↦ ap (λ b. cond b None (mid q)) e ∙ h q ∙ ap (λ b. cond b (Some row) (look q)) (tie i q ∙ e)
    ]
