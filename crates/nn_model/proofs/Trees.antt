-- Edits keep a namespace a tree of directories with files as leaves, and its numbers in their limits.
use Rattle.std.proofs.Common.{◌≡◌, ℕ, ◌≤◌, ◌<◌, Bool, true, false, cond, not, List, [], ◌∷◌, ◌++◌, length, drop, Option, Some, None, refl, sym, ap}
use Rattle.std.proofs.Common.{subst, ◌∙◌, arith, append_assoc, length-append, inl, inr}
use Rattle.std.specs.Prelude.{is_some, nat_lt}
use Rattle.std.proofs.lemmas.List.{drop-append-le}
use Rattle.std.proofs.lemmas.Bool.{both_ways, false_from_ne_true, cases_Bool, cond-true, cond-false, not-false, or_parts, ltb-false, leb-false}
use Rattle.nn_types.specs.declared.block.Block.{Block}
use Rattle.nn_types.specs.Number.{IsNumber}
use Rattle.nn_types.specs.declared.edit.Edit.{Edit}
use Rattle.nn_types.specs.declared.edit.Edit.TheVariants.{StartSegment, EndSegment, Mkdir, Add, AddBlock, UpdateBlocks, Close, Append, Rename, Delete, SetReplication}
use Rattle.nn_types.specs.declared.edit.Edit.TheVariants.{AllocateBlockId, SetGenstamp}
use Rattle.nn_types.specs.LawfulEdit.{IsLawfulEdit}
use Rattle.nn_model.specs.declared.form.Form.{Form}
use Rattle.nn_model.specs.declared.form.Form.TheVariants.{Dir, File}
use Rattle.nn_model.specs.declared.form.FileRow.{FileRow}
use Rattle.nn_model.specs.Namespace.{Path, Namespace, no_stamp, lookup, with_row, begins_with, file_at, file_or_none}
use Rattle.nn_model.specs.Apply.{first_fault, checks, refusal, effect, is_root, is_dir, walk, exists, missing, not_file, replication_range, list_checks}
use Rattle.nn_model.specs.Apply.{with_blocks}
use Rattle.nn_model.specs.WellFormed.{IsWellFormed}
use Rattle.nn_model.proofs.Dues.{all_none, when_none}
use Rattle.nn_model.proofs.Lookups.{lookup_put, lookup_delete}
use Rattle.nn_model.proofs.Wells.{blocks_stay_well_formed}
use Rattle.nn_model.proofs.Prefixes.{same, same_true, begins_more, begins_last, begins_split}
use Rattle.nn_model.proofs.Moves.{not_below, last_parent, HasParents, nothing_below, after_rename, at_target, at_source, elsewhere, lookup_rename}

-- ---- what checks say that found nothing

pub absent : (o : Option Form) → exists o ≡ None → o ≡ None
absent None h = refl
absent (Some form) h = absurd (cc)

pub stands : (o : Option Form) → missing o ≡ None → is_some o ≡ true
stands o h = not-false _ (when_none _ _ h)

in_range : (r : ℕ) → replication_range r ≡ None → (1 ≤ r) × (r ≤ 512)
in_range r h = let parts = or_parts (nat_lt r 1) (nat_lt 512 r) (when_none _ _ h) in (ltb-false _ _ parts.0, ltb-false _ _ parts.1)

a_file : (o : Option Form) → is_some o ≡ true → is_dir o ≡ false → o ≡ Some (File (file_or_none o))
a_file None some no_dir = absurd (both_ways _ refl some)
a_file (Some Dir) some no_dir = absurd (both_ways _ no_dir refl)
a_file (Some (File file)) some no_dir = refl

-- the path holds a file
pub its_file : (n : Namespace) (p : Path) → missing (lookup n p) ≡ None → not_file (lookup n p) ≡ None → lookup n p ≡ Some (File (file_at n p))
its_file n p some no_dir = a_file (lookup n p) (stands (lookup n p) some) (when_none _ _ no_dir)

-- ---- trees, as look-ups

abbrev pub InRange : Form → Type 0
InRange Dir = Unit {0}
InRange (File file) = (1 ≤ file.replication) × (file.replication ≤ 512)

pub record IsTree (f : Path → Option Form) : Type 0 where
  pub root : f [] ≡ Some Dir
  pub parents : HasParents f
  pub replications : (p : Path) (form : Form) → f p ≡ Some form → InRange form

same_tree : (f g : Path → Option Form) → ((q : Path) → g q ≡ f q) → IsTree f → IsTree g
same_tree f g same t = record {
  root = same [] ∙ t.root;
  parents = λ p name some. same p ∙ t.parents p name (sym (ap is_some (same (p ++ name ∷ []))) ∙ some);
  replications = λ p form there. t.replications p form (sym (same p) ∙ there);
}

module _ (f : Path → Option Form) (t : IsTree f) where
  -- something new at a path whose parents are directories, and which is no directory itself
  row_tree : (p : Path) (form : Form) → is_root p ≡ None → walk f p ≡ None → (f p ≡ Some Dir → ⊥) → InRange form → IsTree (λ q. cond (same q p) (Some form) (f q))
  row_tree p form below_root walk_went no_dir range = record {
    root = cond-false (same [] p) (Some form) (f []) (not_root p below_root) ∙ t.root;
    parents = λ q name some.
        let dir : f q ≡ Some Dir = elim (cases_Bool (same (q ++ name ∷ []) p)) [
          | inl one ↦ last_parent f q name (subst (λ x. walk f x ≡ None) (sym (same_true _ _ one)) walk_went)
          | inr other ↦ t.parents q name (sym (ap is_some (cond-false (same (q ++ name ∷ []) p) (Some form) (f (q ++ name ∷ [])) other)) ∙ some)
        ] in
        cond-false (same q p) (Some form) (f q) (false_from_ne_true _ (λ one. no_dir (ap f (sym (same_true q p one)) ∙ dir))) ∙ dir;
    replications = λ q at there. elim (cases_Bool (same q p)) [
      | inl one ↦ (let e : Some form ≡ Some at = sym (cond-true (same q p) (Some form) (f q) one) ∙ there in let is : form ≡ at = cc in subst InRange is range)
      | inr other ↦ t.replications q at (sym (cond-false (same q p) (Some form) (f q) other) ∙ there)
    ];
  }
    where
      not_root : (p : Path) → is_root p ≡ None → same [] p ≡ false
      not_root [] h = absurd (cc)
      not_root (name ∷ p) h = refl

  -- all that begins with a path is gone
  delete_tree : (p : Path) → is_root p ≡ None → IsTree (λ q. cond (not (begins_with p q)) (f q) None)
  delete_tree [] below_root = absurd (cc)
  delete_tree (x ∷ p) below_root = record {
    root = t.root;
    parents = λ q name some. elim (cases_Bool (begins_with (x ∷ p) (q ++ name ∷ []))) [
      | inl gone ↦ absurd (both_ways _ refl (sym (ap (λ b. is_some (cond (not b) (f (q ++ name ∷ [])) None)) gone) ∙ some))
      | inr kept ↦
          let dir = t.parents q name (sym (ap (λ b. is_some (cond (not b) (f (q ++ name ∷ [])) None)) kept) ∙ some) in
          let stays : begins_with (x ∷ p) q ≡ false = false_from_ne_true _ (λ above. both_ways _ kept (begins_more (x ∷ p) q (name ∷ []) above)) in
          ap (λ b. cond (not b) (f q) None) stays ∙ dir
    ];
    replications = λ q form there. elim (cases_Bool (begins_with (x ∷ p) q)) [
      | inl gone ↦ (let e : None ≡ Some form = sym (ap (λ b. cond (not b) (f q) None) gone) ∙ there in absurd (cc))
      | inr kept ↦ t.replications q form (sym (ap (λ b. cond (not b) (f q) None) kept) ∙ there)
    ];
  }

  -- ---- all that begins with s begins with d
  module _ (s d : Path) where
    none_is_some : (o : Option Form) → o ≡ None → is_some o ≡ true → ⊥
    none_is_some o none some = both_ways _ refl (sym (ap is_some none) ∙ some)

    above_too : (r q : Path) (name : List ℕ) → begins_with r (q ++ name ∷ []) ≡ false → begins_with r q ≡ false
    above_too r q name beside = false_from_ne_true _ (λ above. both_ways _ beside (begins_more r q (name ∷ []) above))

    rest_grows : (q : Path) (name : List ℕ) → begins_with d q ≡ true → (s ++ drop (length d) q) ++ name ∷ [] ≡ s ++ drop (length d) (q ++ name ∷ [])
    rest_grows q name below =
        let fits : length d ≤ length q = omega (arith, ap length (begins_split d q below), length-append d (drop (length d) q)) in
        append_assoc s (drop (length d) q) (name ∷ []) ∙ ap (λ rest. s ++ rest) (sym (drop-append-le (length d) q (name ∷ []) fits))

    rename_parents : walk f d ≡ None → begins_with s d ≡ false → HasParents (after_rename f s d)
    rename_parents walk_went outside q name some =
        elim (cases_Bool (begins_with d (q ++ name ∷ []))) [
          | inl below ↦ elim (cases_Bool (begins_with d q)) [
            | inl above ↦ at_target f s d q above
                ∙ t.parents (s ++ drop (length d) q) name
                (ap (λ p. is_some (f p)) (rest_grows q name above) ∙ sym (ap is_some (at_target f s d _ below)) ∙ some)
            | inr at ↦
                let is : d ≡ q ++ name ∷ [] = begins_last d q name below at in
                let not_source : begins_with s q ≡ false = above_too s q name (subst (λ p. begins_with s p ≡ false) is outside) in
                elsewhere f s d q at not_source ∙ last_parent f q name (subst (λ x. walk f x ≡ None) is walk_went)
          ]
          | inr beside ↦ elim (cases_Bool (begins_with s (q ++ name ∷ []))) [
            | inl gone ↦ absurd (none_is_some _ (at_source f s d _ beside gone) some)
            | inr apart ↦ elsewhere f s d q (above_too d q name beside) (above_too s q name apart)
                ∙ t.parents q name (sym (ap is_some (elsewhere f s d _ beside apart)) ∙ some)
          ]
        ]

    rename_ranges : (q : Path) (form : Form) → after_rename f s d q ≡ Some form → InRange form
    rename_ranges q form there =
        elim (cases_Bool (begins_with d q)) [
          | inl below ↦ t.replications (s ++ drop (length d) q) form (sym (at_target f s d q below) ∙ there)
          | inr beside ↦ elim (cases_Bool (begins_with s q)) [
            | inl gone ↦ absurd (none_is_some _ (at_source f s d q beside gone) (ap is_some there))
            | inr apart ↦ t.replications q form (sym (elsewhere f s d q beside apart) ∙ there)
          ]
        ]

  rename_tree : (s d : Path) → is_root s ≡ None → is_root d ≡ None → walk f d ≡ None → begins_with s d ≡ false → IsTree (after_rename f s d)
  rename_tree [] d source target walk_went outside = absurd (cc)
  rename_tree (x ∷ s) [] source target walk_went outside = absurd (cc)
  rename_tree (x ∷ s) (y ∷ d) source target walk_went outside = record {
    root = t.root;
    parents = rename_parents (x ∷ s) (y ∷ d) walk_went outside;
    replications = rename_ranges (x ∷ s) (y ∷ d);
  }

-- ---- edit by edit

pub tree_of : (n : Namespace) → IsWellFormed n → IsTree (lookup n)
tree_of n w = record { root = w.root; parents = w.parents; replications = λ p form there. ranges p form there }
  where
    ranges : (p : Path) (form : Form) → lookup n p ≡ Some form → InRange form
    ranges p Dir there = tt
    ranges p (File file) there = w.replications p file there

module _ (n : Namespace) (t : IsTree (lookup n)) where
  row : (p : Path) (form : Form) → is_root p ≡ None → walk (lookup n) p ≡ None → (lookup n p ≡ Some Dir → ⊥) → InRange form → IsTree (lookup (with_row n p form))
  row p form below_root walked no_dir range =
      same_tree (λ q. cond (same q p) (Some form) (lookup n q)) (lookup (with_row n p form)) (λ q. lookup_put n p q form)
      (row_tree (lookup n) t p form below_root walked no_dir range)

  free_row : (p : Path) (form : Form) → is_root p ≡ None → walk (lookup n) p ≡ None → exists (lookup n p) ≡ None → InRange form → IsTree (lookup (with_row n p form))
  free_row p form below_root walked free =
      row p form below_root walked (λ dir. let none = absent (lookup n p) free in let e : None ≡ Some Dir = sym none ∙ dir in absurd (cc))

  -- a file's row with the same replication or another one
  file_row : (p : Path) (file : FileRow) → is_root p ≡ None → walk (lookup n) p ≡ None → missing (lookup n p) ≡ None → not_file (lookup n p) ≡ None → InRange (File file) →
      IsTree (lookup (with_row n p (File file)))
  file_row p file below_root walked there no_dir =
      row p (File file) below_root walked (λ dir.
      let e : Some (File (file_at n p)) ≡ Some Dir = sym (its_file n p there no_dir) ∙ dir in absurd (cc))

  same_range : (p : Path) → missing (lookup n p) ≡ None → not_file (lookup n p) ≡ None → InRange (File (file_at n p))
  same_range p there no_dir = t.replications p (File (file_at n p)) (its_file n p there no_dir)

  list_tree : (p : Path) (bs : List Block) (now_closed : Bool) → first_fault (list_checks n p bs) ≡ None → IsTree (lookup (with_blocks n p bs now_closed))
  list_tree p bs now_closed applies =
      let ok = all_none (list_checks n p bs) applies in
      file_row p (record {
        replication =
            (file_at n p).replication;
        closed = now_closed;
        blocks = bs;
      }) ok.0 ok.1.0 ok.1.1.0 ok.1.1.1.0 (same_range p ok.1.1.0 ok.1.1.1.0)

  pub edit_tree : (edit : Edit) → refusal n edit ≡ None → IsTree (lookup (effect n edit))
  edit_tree (StartSegment profile) applies = t
  edit_tree EndSegment applies = t
  edit_tree (Mkdir p) applies = let ok = all_none (checks n (Mkdir p)) applies in free_row p Dir ok.0 ok.1.0 ok.1.1.0 tt
  edit_tree (Add p r) applies =
      let ok = all_none (checks n (Add p r)) applies in
      free_row p (File (record { replication = r; closed = false; blocks = [] })) ok.0 ok.1.1.0 ok.1.1.1.0 (in_range r ok.1.0)
  edit_tree (AddBlock p i stamp) applies =
      let ok = all_none (checks n (AddBlock p i stamp)) applies in
      let bs = (file_at n p).blocks ++ record { id = i; stamp = stamp; len = 0 } ∷ [] in
      file_row p (record {
        replication =
            (file_at n p).replication;
        closed = false;
        blocks = bs;
      }) ok.0 ok.1.0 ok.1.1.0 ok.1.1.1.0 (same_range p ok.1.1.0 ok.1.1.1.0)
  edit_tree (UpdateBlocks p bs) applies = list_tree p bs false applies
  edit_tree (Close p bs) applies = list_tree p bs true applies
  edit_tree (Append p) applies =
      let ok = all_none (checks n (Append p)) applies in
      file_row p (record (file_at n p) { closed = false }) ok.0 ok.1.0 ok.1.1.0 ok.1.1.1.0 (same_range p ok.1.1.0 ok.1.1.1.0)
  edit_tree (Rename s d) applies =
      let ok = all_none (checks n (Rename s d)) applies in
      let free = absent (lookup n d) ok.1.1.1.1.1.1.0 in
      let outside = not_below (lookup n) s d free (stands (lookup n s) ok.1.1.1.0) (when_none _ _ ok.1.1.1.1.0) in
      same_tree (after_rename (lookup n) s d) (lookup (effect n (Rename s d)))
      (λ q. lookup_rename n.rows s d q (λ rest. nothing_below (lookup n) t.parents d rest free))
      (rename_tree (lookup n) t s d ok.0 ok.1.0 ok.1.1.1.1.1.0 outside)
  edit_tree (Delete p) applies =
      let ok = all_none (checks n (Delete p)) applies in
      same_tree (λ q. cond (not (begins_with p q)) (lookup n q) None) (lookup (effect n (Delete p))) (λ q. lookup_delete n.rows p q)
      (delete_tree (lookup n) t p ok.0)
  edit_tree (SetReplication p r) applies =
      let ok = all_none (checks n (SetReplication p r)) applies in
      file_row p (record (file_at n p) { replication = r }) ok.0 ok.1.1.0 ok.1.1.1.0 ok.1.1.1.1.0 (in_range r ok.1.0)
  edit_tree (AllocateBlockId i) applies = t
  edit_tree (SetGenstamp stamp) applies = t

-- ---- the limits of the last id and the last generation stamp

abbrev InLimits : ℕ → ℕ → Type 0
InLimits block stamp = IsNumber block × (no_stamp ≤ stamp) × IsNumber stamp

edit_limits : (n : Namespace) (edit : Edit) → IsLawfulEdit edit → refusal n edit ≡ None → InLimits n.issued.last_block n.issued.last_stamp →
    InLimits (effect n edit).issued.last_block (effect n edit).issued.last_stamp
edit_limits n (StartSegment profile) lawful applies l = l
edit_limits n EndSegment lawful applies l = l
edit_limits n (Mkdir p) lawful applies l = l
edit_limits n (Add p r) lawful applies l = l
edit_limits n (AddBlock p i stamp) lawful applies l = l
edit_limits n (UpdateBlocks p bs) lawful applies l = l
edit_limits n (Close p bs) lawful applies l = l
edit_limits n (Append p) lawful applies l = l
edit_limits n (Rename s d) lawful applies l = l
edit_limits n (Delete p) lawful applies l = l
edit_limits n (SetReplication p r) lawful applies l = l
edit_limits n (AllocateBlockId i) lawful applies l = (lawful, l.1, l.2)
edit_limits n (SetGenstamp stamp) lawful applies l =
    let above : n.issued.last_stamp < stamp = leb-false _ _ (when_none _ _ (all_none (checks n (SetGenstamp stamp)) applies).0) in
    (l.0, omega (arith, l.1), lawful)

pub stays_well_formed : (n : Namespace) (edit : Edit) → IsLawfulEdit edit → refusal n edit ≡ None → IsWellFormed n → IsWellFormed (effect n edit)
stays_well_formed n edit lawful applies w =
    let t = edit_tree n (tree_of n w) edit applies in
    let l = edit_limits n edit lawful applies (w.last_block_to, w.last_stamp_from, w.last_stamp_to) in
    record {
      root = t.root;
      parents = t.parents;
      replications = λ p file there. t.replications p (File file) there;
      blocks = blocks_stay_well_formed n edit lawful applies w.blocks;
      last_block_to = l.0;
      last_stamp_from = l.1;
      last_stamp_to = l.2;
    }
