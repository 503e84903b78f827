-- Edits keep the names of a namespace UTF-8.
use Rattle.std.proofs.Common.{◌≡◌, true, cond, not, ◌++◌, length, drop, Option, Some, None, is_some, refl, sym, ap, subst, ◌∙◌, inl, inr}
use Rattle.std.specs.Str.{is_utf8}
use Rattle.std.specs.List.{list_all}
use Rattle.std.proofs.lemmas.Bool.{both_ways, cases_Bool, cond-false, and_parts, and_from}
use Rattle.std.proofs.lemmas.List.Folds.{list_all-append}
use Rattle.nn_types.specs.Path.{AreUtf8}
use Rattle.nn_types.specs.LawfulEdit.{IsUtf8Edit}
use Rattle.nn_types.specs.declared.edit.Edit.{Edit}
use Rattle.nn_types.specs.declared.edit.Edit.TheVariants.{StartSegment, EndSegment, Mkdir, Add, AddBlock, UpdateBlocks, Close, Append, Rename, Delete, SetReplication}
use Rattle.nn_types.specs.declared.edit.Edit.TheVariants.{AllocateBlockId, SetGenstamp}
use Rattle.nn_model.specs.declared.form.Form.{Form}
use Rattle.nn_model.specs.declared.form.Form.TheVariants.{Dir}
use Rattle.nn_model.specs.Namespace.{Path, Namespace, lookup, with_row, begins_with}
use Rattle.nn_model.specs.Apply.{checks, refusal, effect}
use Rattle.nn_model.specs.WellFormed.{IsWellFormed, HasUtf8Names}
use Rattle.nn_model.proofs.Dues.{all_none}
use Rattle.nn_model.proofs.Lookups.{lookup_put, lookup_delete}
use Rattle.nn_model.proofs.Prefixes.{same, same_true, begins_split}
use Rattle.nn_model.proofs.Moves.{nothing_below, after_rename, at_target, at_source, elsewhere, lookup_rename}
use Rattle.nn_model.proofs.Trees.{absent}

-- names in front of names
both_utf8 : (p q : Path) → AreUtf8 p → AreUtf8 q → AreUtf8 (p ++ q)
both_utf8 p q prefix back = list_all-append is_utf8 p q ∙ and_from (list_all is_utf8 p) (list_all is_utf8 q) prefix back

later_utf8 : (p q : Path) → AreUtf8 (p ++ q) → AreUtf8 q
later_utf8 p q all = (and_parts (list_all is_utf8 p) (list_all is_utf8 q) (sym (list_all-append is_utf8 p q) ∙ all)).1

no_row : (o : Option Form) → o ≡ None → is_some o ≡ true → ⊥
no_row o none some = both_ways _ refl (sym (ap is_some none) ∙ some)

module _ (n : Namespace) (utf8 : HasUtf8Names n) where
  pub row_utf8 : (p : Path) (form : Form) → AreUtf8 p → HasUtf8Names (with_row n p form)
  row_utf8 p form own q some =
      elim (cases_Bool (same q p)) [
        | inl one ↦ subst AreUtf8 (sym (same_true q p one)) own
        | inr other ↦ utf8 q (sym (ap is_some (lookup_put n p q form ∙ cond-false (same q p) (Some form) (lookup n q) other)) ∙ some)
      ]

  deleted_utf8 : (p : Path) → HasUtf8Names (effect n (Delete p))
  deleted_utf8 p q some =
      elim (cases_Bool (begins_with p q)) [
        | inl gone ↦ absurd (no_row _ (lookup_delete n.rows p q ∙ ap (λ b. cond (not b) (lookup n q) None) gone) some)
        | inr kept ↦ utf8 q (sym (ap is_some (lookup_delete n.rows p q ∙ ap (λ b. cond (not b) (lookup n q) None) kept)) ∙ some)
      ]

  renamed_utf8 : (s d : Path) → AreUtf8 d → ((q : Path) → lookup (effect n (Rename s d)) q ≡ after_rename (lookup n) s d q) → HasUtf8Names (effect n (Rename s d))
  renamed_utf8 s d target goes q some =
      elim (cases_Bool (begins_with d q)) [
        | inl below ↦
            let rest = drop (length d) q in
            let there : is_some (lookup n (s ++ rest)) ≡ true = sym (ap is_some (goes q ∙ at_target (lookup n) s d q below)) ∙ some in
            subst AreUtf8 (sym (begins_split d q below)) (both_utf8 d rest target (later_utf8 s rest (utf8 (s ++ rest) there)))
        | inr beside ↦ elim (cases_Bool (begins_with s q)) [
          | inl gone ↦ absurd (no_row _ (goes q ∙ at_source (lookup n) s d q beside gone) some)
          | inr apart ↦ utf8 q (sym (ap is_some (goes q ∙ elsewhere (lookup n) s d q beside apart)) ∙ some)
        ]
      ]

pub names_stay_utf8 : (n : Namespace) (edit : Edit) → IsUtf8Edit edit → refusal n edit ≡ None → IsWellFormed n → HasUtf8Names n → HasUtf8Names (effect n edit)
names_stay_utf8 n (StartSegment profile) own applies w utf8 = utf8
names_stay_utf8 n EndSegment own applies w utf8 = utf8
names_stay_utf8 n (Mkdir p) own applies w utf8 = row_utf8 n utf8 p Dir own
names_stay_utf8 n (Add p r) own applies w utf8 = row_utf8 n utf8 p _ own
names_stay_utf8 n (AddBlock p i stamp) own applies w utf8 = row_utf8 n utf8 p _ own
names_stay_utf8 n (UpdateBlocks p bs) own applies w utf8 = row_utf8 n utf8 p _ own
names_stay_utf8 n (Close p bs) own applies w utf8 = row_utf8 n utf8 p _ own
names_stay_utf8 n (Append p) own applies w utf8 = row_utf8 n utf8 p _ own
names_stay_utf8 n (Rename s d) own applies w utf8 =
    let free = absent (lookup n d) (all_none (checks n (Rename s d)) applies).1.1.1.1.1.1.0 in
    renamed_utf8 n utf8 s d own.1 (λ q. lookup_rename n.rows s d q (λ rest. nothing_below (lookup n) w.parents d rest free))
names_stay_utf8 n (Delete p) own applies w utf8 = deleted_utf8 n utf8 p
names_stay_utf8 n (SetReplication p r) own applies w utf8 = row_utf8 n utf8 p _ own
names_stay_utf8 n (AllocateBlockId i) own applies w utf8 = utf8
names_stay_utf8 n (SetGenstamp stamp) own applies w utf8 = utf8
