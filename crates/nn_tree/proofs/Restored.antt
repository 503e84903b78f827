-- Which paths may be restored, and the root alone with what was issued.
use Rattle.std.proofs.Common.{◌≡◌, ℕ, zero, suc, ◌+◌, ◌≤◌, ◌<◌, ◌^◌, true, false, not, List, [], ◌∷◌, ◌++◌, length, take, get_or, Option, Some, None, refl, sym, ap, ◌∙◌, subst, inl, inr, arith, ltb, take-add, drop-cons}
use Rattle.std.specs.Prelude.{◌==◌, is_some}
use Rattle.std.specs.List.{list_all}
use Rattle.std.specs.List.Sorted.{IsStrictlySortedBy}
use Rattle.std.specs.List.{AllByRecursion}
use Rattle.std.specs.Ordering.{nat_cmp}
use Rattle.std.specs.declared.cmp.Ordering.TheVariants.{Less}
use Rattle.std.specs.Cmp.{nat_cmp_is}
use Rattle.std.specs.BTreeSet.{insert_key}
use Rattle.std.proofs.lemmas.Bool.{both_ways, or_cases, and_parts, eqb-true, ltb-true, leb-true, cases_Bool}
use Rattle.nn_types.specs.declared.edit.Edit.TheVariants as edit
use Rattle.nn_model.specs.declared.form.Form.{Form}
use Rattle.nn_model.specs.declared.form.Form.TheVariants.{Dir, File}
use Rattle.nn_model.specs.declared.form.FileRow.{FileRow}
use Rattle.nn_model.specs.Namespace.{Path, Issued, Namespace, lookup, blocks_of, no_block, no_stamp}
use Rattle.nn_model.specs.Apply.{refusal, checks, walk, has_id, is_dir}
use Rattle.nn_model.specs.WellFormed.{Includes, IsWellFormed, HasUtf8Names}
use Rattle.nn_tree.specs.Restore.{bare, parent_of, rises, is_issued, awaiting_fits, can_restore}
use Rattle.nn_tree.specs.View.{IsKept, IsInSomeFile}
use Rattle.nn_model.specs.declared.form.BlockRow.{BlockRow}
use Rattle.nn_model.proofs.Dues.{all_none}
use Rattle.nn_model.proofs.Moves.{HasParents, is_directory}
use Rattle.nn_model.proofs.Trees.{absent}
use Rattle.nn_tree.proofs.Waiting.{insert_last}

-- ---- Walks down to a directory.

below : (f : Path → Option Form) (n : List ℕ) → HasParents f → HasParents (λ q. f (n ∷ q))
below f n h p name there = h (n ∷ p) name there

top_dir : (f : Path → Option Form) (q : Path) → HasParents f → f q ≡ Some Dir → f [] ≡ Some Dir
top_dir f [] h e = e
top_dir f (n ∷ q) h e = h [] n (ap is_some (top_dir (λ r. f (n ∷ r)) q (below f n h) e))

-- a path whose parent is a directory is walked to
walks : (f : Path → Option Form) (n : List ℕ) (p : Path) → HasParents f → f (parent_of (n ∷ p)) ≡ Some Dir → walk f (n ∷ p) ≡ None
walks f n [] h e = rw e refl
walks f n (m ∷ p) h e = rw (top_dir f (parent_of (n ∷ m ∷ p)) h e) (walks (λ q. f (n ∷ q)) m p (below f n h) e)

-- and the walk finds the parent
walked : (f : Path → Option Form) (n : List ℕ) (p : Path) → walk f (n ∷ p) ≡ None → f (parent_of (n ∷ p)) ≡ Some Dir
walked f n [] e = (is_directory (f []) _ e).0
walked f n (m ∷ p) e = walked (λ q. f (n ∷ q)) m p (is_directory (f []) _ e).1

dir_is : (o : Option Form) → is_dir o ≡ true → o ≡ Some Dir
dir_is None e = absurd (both_ways _ refl e)
dir_is (Some Dir) e = refl
dir_is (Some (File x)) e = absurd (both_ways _ refl e)

none_is : (o : Option Form) → not (is_some o) ≡ true → o ≡ None
none_is None e = refl
none_is (Some x) e = absurd (both_ways _ refl e)

-- ---- A directory may be restored where one can be made.

pub dir_restored : (n : Namespace) (p : Path) → IsWellFormed n → refusal n (edit.Mkdir p) ≡ None → can_restore n p Dir ≡ true
dir_restored n [] w e = absurd (cc)
dir_restored n (name ∷ p) w e =
    let found = all_none (checks n (edit.Mkdir (name ∷ p))) e in
    rw (absent (lookup n (name ∷ p)) found.1.1.0, walked (lookup n) name p found.1.0) refl

pub dir_refused : (n : Namespace) (p : Path) → IsWellFormed n → is_some (refusal n (edit.Mkdir p)) ≡ true → can_restore n p Dir ≡ false
dir_refused n p w e = elim (cases_Bool (can_restore n p Dir)) [
  | inl yes_it_may ↦ absurd (both_ways _ (ap is_some (may n p w yes_it_may)) e)
  | inr it_may_not ↦ it_may_not
]
  where
    may : (n : Namespace) (p : Path) → IsWellFormed n → can_restore n p Dir ≡ true → refusal n (edit.Mkdir p) ≡ None
    may n [] w h = absurd (let parts = and_parts (not (is_some (lookup n []))) _ h in let free = none_is (lookup n []) parts.0 in let root = w.root in (cc (free, root)))
    may n (name ∷ p) w h =
        let parts = and_parts (not (is_some (lookup n (name ∷ p)))) _ h in
        let free = none_is (lookup n (name ∷ p)) parts.0 in
        let parent = dir_is (lookup n (parent_of (name ∷ p))) (and_parts (is_dir (lookup n (parent_of (name ∷ p)))) true parts.1).0 in
        rw (walks (lookup n) name p w.parents parent, free) refl

-- ---- Ids that rise.

above_first : (x : ℕ) (ids : List ℕ) (i d : ℕ) → rises (x ∷ ids) ≡ true → i < length ids → x < get_or ids i d
above_first x [] i d r h = absurd (omega arith)
above_first x (y ∷ ids) zero d r h = ltb-true x y (and_parts (ltb x y) (rises (y ∷ ids)) r).0
above_first x (y ∷ ids) (suc i) d r h =
    let parts = and_parts (ltb x y) (rises (y ∷ ids)) r in
    let next = ltb-true x y parts.0 in
    let later = above_first y ids i d parts.1 (omega arith) in
    omega arith

rises_tail : (x : ℕ) (ids : List ℕ) → rises (x ∷ ids) ≡ true → rises ids ≡ true
rises_tail x [] r = refl
rises_tail x (y ∷ ids) r = (and_parts (ltb x y) (rises (y ∷ ids)) r).1

taken_below : (ids : List ℕ) (i d k : ℕ) → rises ids ≡ true → i < length ids → has_id (take i ids) k ≡ true → k < get_or ids i d
taken_below [] i d k r h e = absurd (omega arith)
taken_below (x ∷ ids) zero d k r h e = absurd (both_ways _ refl e)
taken_below (x ∷ ids) (suc i) d k r h e = elim (or_cases (x == k) (has_id (take i ids) k) e) [
  | inl here ↦ (let same = eqb-true x k here in let first = above_first x ids i d r (omega arith) in omega arith)
  | inr later ↦ taken_below ids i d k (rises_tail x ids r) (omega arith) later
]

pub one_more : (ids keys new : List ℕ) (i x d last : ℕ) → awaiting_fits last ids ≡ true → i < length ids → x ≡ get_or ids i d → keys ≡ take i ids → new ≡ insert_key nat_cmp keys x → new ≡ take (i + 1) ids
one_more ids keys new i x d last fits within is so_far e =
    let r = (and_parts (list_all (is_issued last) ids) (rises ids) fits).1 in
    let one : take (i + 1) ids ≡ take i ids ++ x ∷ [] = take-add i 1 ids ∙ ap (λ r. take i ids ++ take 1 r) (drop-cons ids i d within) ∙ ap (λ y. take i ids ++ y ∷ []) (sym is) in
    e ∙ ap (λ ks. insert_key nat_cmp ks x) so_far ∙ insert_last (take i ids) x (λ k h. subst (λ y. k < y) (sym is) (taken_below ids i d k r within h)) ∙ sym one

-- ---- The root alone, with what was issued.

issued_of : (last : ℕ) (ids : List ℕ) (id : ℕ) → list_all (is_issued last) ids ≡ true → has_id ids id ≡ true → (no_block + 1 ≤ id) × (id ≤ last)
issued_of last [] id all e = absurd (both_ways _ refl e)
issued_of last (x ∷ ids) id all e =
    let parts = and_parts (is_issued last x) (list_all (is_issued last) ids) all in
    elim (or_cases (x == id) (has_id ids id) e) [
      | inl here ↦ subst (λ k. (no_block + 1 ≤ k) × (k ≤ last)) (eqb-true x id here) (let both = and_parts _ _ parts.0 in (leb-true _ _ both.0, leb-true _ _ both.1))
      | inr later ↦ issued_of last ids id parts.1 later
    ]

sorted_of : (ids : List ℕ) → rises ids ≡ true → IsStrictlySortedBy nat_cmp ids
unfolding IsStrictlySortedBy
sorted_of [] r = tt
sorted_of (x ∷ ids) r = (after x ids r, sorted_of ids (rises_tail x ids r))
  where
    after_less : (x y : ℕ) (ids : List ℕ) → x < y → rises (y ∷ ids) ≡ true → AllByRecursion (λ z. nat_cmp x z ≡ Less) ids
    after_less x y [] less r = tt
    after_less x y (z ∷ ids) less r =
        let parts = and_parts (ltb y z) (rises (z ∷ ids)) r in
        let next = ltb-true y z parts.0 in
        let here : x < z = omega arith in
        (sym (nat_cmp_is x z Less here), after_less x z ids here parts.1)

    after : (x : ℕ) (ids : List ℕ) → rises (x ∷ ids) ≡ true → AllByRecursion (λ y. nat_cmp x y ≡ Less) ids
    after x [] r = tt
    after x (y ∷ ids) r =
        let parts = and_parts (ltb x y) (rises (y ∷ ids)) r in
        let less = ltb-true x y parts.0 in
        (sym (nat_cmp_is x y Less less), after_less x y ids less parts.1)

no_child : (issued : Issued) (p : Path) (name : List ℕ) → is_some (lookup (bare issued) (p ++ name ∷ [])) ≡ true → lookup (bare issued) p ≡ Some Dir
no_child issued [] name some = refl
no_child issued (x ∷ p) name some = absurd (both_ways _ refl some)

no_files : (issued : Issued) (p : Path) (file : FileRow) → lookup (bare issued) p ≡ Some (File file) → (1 ≤ file.replication) × (file.replication ≤ 512)
no_files issued [] file there = let e : Some Dir ≡ Some (File file) = there in absurd (cc)
no_files issued (x ∷ p) file there = let e : None ≡ Some (File file) = there in absurd (cc)

pub bare_is_well_formed : (issued : Issued) → no_block ≤ issued.last_block → issued.last_block < 2 ^ 63 → no_stamp ≤ issued.last_stamp → issued.last_stamp < 2 ^ 63 → awaiting_fits issued.last_block issued.awaiting ≡ true → IsWellFormed (bare issued)
bare_is_well_formed issued low small old short fits =
    let parts = and_parts (list_all (is_issued issued.last_block) issued.awaiting) (rises issued.awaiting) fits in
    record {
      root = refl;
      parents = no_child issued;
      replications = no_files issued;
      blocks = record {
        in_order = refl;
        last_block_from = low;
        awaiting_in_order = sorted_of issued.awaiting parts.1;
        awaiting_from = λ id waits. issued_of issued.last_block issued.awaiting id parts.0 waits;
        once = λ id. omega arith;
        issued = λ b here. absurd here;
      };
      last_block_to = small;
      last_stamp_from = old;
      last_stamp_to = short;
    }

no_block_stands : (issued : Issued) (b : BlockRow) → IsInSomeFile (lookup (bare issued)) b → ⊥
no_block_stands issued b ([], r, e, here) = let is : Dir ≡ r = cc in subst (λ form. Includes (blocks_of form) b.block) (sym is) here.1
no_block_stands issued b (name ∷ p, r, e, here) = absurd (cc)

bare_utf8 : (issued : Issued) → HasUtf8Names (bare issued)
bare_utf8 issued [] some = refl
bare_utf8 issued (name ∷ p) some = absurd (both_ways _ refl some)

pub bare_kept : (n : Namespace) (look : ℕ → Option BlockRow) (issued : Issued) → n ≡ bare issued → IsWellFormed (bare issued) → ((id : ℕ) → look id ≡ None) → IsKept n look
bare_kept n look issued e w none = record {
  well = subst IsWellFormed (sym e) w;
  utf8 = subst HasUtf8Names (sym e) (bare_utf8 issued);
  index = record {
    sound = λ id b h. absurd (let m = none id in (cc (m, h)));
    complete = λ b stands. absurd (no_block_stands issued b (subst (λ m. IsInSomeFile (lookup m) b) e stands));
  };
}
