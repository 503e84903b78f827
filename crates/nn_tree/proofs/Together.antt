-- A rename in a child of a directory, as the directory sees it.
use Rattle.std.proofs.Common.{◌≡◌, inl, inr, ℕ, suc, false, cond, not, ◌&&◌, length, drop, arith, List, [], ◌∷◌, ◌++◌, Some, None, refl, sym, ap, ◌∙◌}
use Rattle.std.specs.Prelude.{nat_lt}
use Rattle.std.specs.Str.{bytes_eq}
use Rattle.std.proofs.lemmas.Bool.{both_ways, cases_Bool, false_from_ne_true, lt-ltb, ltb-true}
use Rattle.nn_types.specs.declared.edit_fault.EditFault.TheVariants.{IntoItself}
use Rattle.nn_model.specs.Namespace.{Path, begins_with}
use Rattle.nn_model.specs.Apply.{first_fault, fault_if, walk, is_root, missing, exists}
use Rattle.nn_model.proofs.Dues.{all_none}
use Rattle.nn_model.proofs.Prefixes.{name_same, name_self}
use Rattle.nn_tree.specs.At.{at}
use Rattle.nn_tree.specs.Walks.{rename_fault, moved_rows, IsRenamed}
use Rattle.nn_tree.proofs.Descent.{Rows, IsStep}
use Rattle.nn_tree.proofs.Step.{is_called}
use Rattle.nn_tree.proofs.Walk.{walk_below}

less_after : (a b : ℕ) → nat_lt (suc a) (suc b) ≡ nat_lt a b
less_after a b = elim (cases_Bool (nat_lt a b)) [
  | inl less ↦ (let below = ltb-true a b less in lt-ltb (suc a) (suc b) (omega (arith, below)) ∙ sym less)
  | inr other ↦ false_from_ne_true _ (λ more. (let below = ltb-true (suc a) (suc b) more in both_ways _ other (lt-ltb a b (omega (arith, below))))) ∙ sym other
]

-- a path whose first name is another path's
pub same_first : (a b : List ℕ) (rest p : Path) → false ≡ not (bytes_eq a b) → p ≡ b ∷ rest → p ≡ a ∷ rest
same_first a b rest p same is = is ∙ ap (λ x. x ∷ rest) (sym (is_called a a b refl same))

-- a path with which another one does not begin has a name
pub apart_named : (s d : Path) → begins_with s d ≡ false → is_root s ≡ None
apart_named [] d h = cc
apart_named (n ∷ s) d h = refl

module _ (es new t w : Rows) (n : List ℕ) (s d ss dd : Path) (is_s : ss ≡ n ∷ s) (is_d : dd ≡ n ∷ d) (step : IsStep es new n t w) where
  -- what has moved in the child has moved in the directory
  pub renamed_further : IsRenamed t s d w → IsRenamed es ss dd new
  renamed_further h q = go q ∙ (λ j. moved_rows (at es) (sym is_s j) (sym is_d j) q)
    where
      go : (q : Path) → at new q ≡ moved_rows (at es) (n ∷ s) (n ∷ d) q
      go [] = step.grafts [] (Some w) (λ r. refl) []
      go (m ∷ r) = step.grafts [] (Some w) (λ r. refl) (m ∷ r) ∙ elim (cases_Bool (bytes_eq n m)) [
        | inl e ↦
            let other : at t r ≡ at es (m ∷ r) = sym (step.stands r) ∙ ap (λ x. at es (x ∷ r)) (name_same n m e) in
            ap (λ b. cond b (at w r) (at es (m ∷ r))) e ∙ h r
            ∙ (λ j. cond (begins_with d r) (sym (step.stands (s ++ drop (length d) r)) j) (cond (begins_with s r) None (other j)))
            ∙ ap (λ b. cond (b && begins_with d r) (at es (n ∷ (s ++ drop (length d) r))) (cond (b && begins_with s r) None (at es (m ∷ r)))) (sym e)
        | inr e ↦ ap (λ b. cond b (at w r) (at es (m ∷ r))) e
            ∙ ap (λ b. cond (b && begins_with d r) (at es (n ∷ (s ++ drop (length d) r))) (cond (b && begins_with s r) None (at es (m ∷ r)))) (sym e)
      ]

  -- what may move in the child may move in the directory
  pub applies_further : rename_fault (at t) s d ≡ None → rename_fault (at es) ss dd ≡ None
  applies_further h =
      let ok = all_none (is_root s ∷ is_root d ∷ walk (at t) s ∷ missing (at t s) ∷ fault_if (begins_with s d && nat_lt (length s) (length d)) IntoItself ∷ walk (at t) d ∷ exists (at t d) ∷ []) h in
      let into : (begins_with (n ∷ s) (n ∷ d) && nat_lt (length (n ∷ s)) (length (n ∷ d))) ≡ (begins_with s d && nat_lt (length s) (length d)) =
      (λ j. (name_self n j && begins_with s d) && less_after (length s) (length d) j) in
      let from = walk_below es t n s (n ∷ s) refl step.top step.stands in
      let to = walk_below es t n d (n ∷ d) refl step.top step.stands in
      (λ j. rename_fault (at es) (is_s j) (is_d j))
      ∙ (λ j. first_fault (from j ∷ missing (step.stands s j) ∷ fault_if (into j) IntoItself ∷ to j ∷ exists (step.stands d j) ∷ []))
      ∙ sym (λ j. first_fault (ok.0 j ∷ ok.1.0 j ∷ walk (at t) s ∷ missing (at t s) ∷ fault_if (begins_with s d && nat_lt (length s) (length d)) IntoItself ∷ walk (at t) d ∷ exists (at t d) ∷ []))
      ∙ h
