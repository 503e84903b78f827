-- A walk goes down to the place that it begins at.
use Rattle.std.proofs.Common.{◌≡◌, ℕ, ◌+◌, true, cond, List, [], ◌∷◌, ◌++◌, length, take, Option, Some, None, sym, ap, ◌∙◌, subst, append_assoc, length-append, arith, Bor}
use Rattle.std.specs.Prelude.{bytes_eq}
use Rattle.std.specs.Map.Iter.{deref}
use Rattle.std.proofs.lemmas.List.{take-append-le, take_all, map-append}
use Rattle.nn_model.specs.declared.form.Form.{Form}
use Rattle.nn_model.specs.Namespace.{Path}
use Rattle.nn_tree.specs.Flat.{under, under_all, below}
use Rattle.nn_tree.specs.Listing.{lent_names}
use Rattle.nn_tree.specs.Nesting.{Nest, IsNested}
use Rattle.nn_tree.specs.Rows.{rows_from, later_of, entries_of, all_entries, from_children, opened, rows_open}
use Rattle.nn_tree.specs.declared.tree.children.Children.{Children}
use Rattle.nn_tree.specs.declared.rows.OpenDir.{OpenDir}
use Rattle.nn_tree.proofs.Listings.{under_all-append, under_all-push}
use Rattle.nn_tree.proofs.Nested.{under_all_none, rows_opened, rows_kept, nest_kept, nest_opened, nest_wider}

abbrev Rows : Type 0
Rows = List (Path × Form)

-- Below these names the walk looks for the place that is left. What it has opened so far lies behind the place.
pub record Down (place : Path) (root : Rows) (names : Path) (dirs : List OpenDir) (name : List ℕ) (rest : Path) (tree : Rows) : Type 0 where
  pub rows : rows_from place root ≡ under_all names (rows_from (name ∷ rest) tree) ++ rows_open names dirs
  pub nest : Nest names 0 (length names) dirs

-- what a walk has that began there
pub record Begun (place : Path) (root : Rows) (names : Path) (dirs : List OpenDir) : Type 0 where
  pub nested : IsNested None names dirs
  pub rows : rows_open names dirs ≡ rows_from place root

module _ (place : Path) (root : Rows) (names : Path) (dirs : List OpenDir) (name : List ℕ) (rest : Path) (tree : Rows) (d : Down place root names dirs name rest tree) where
  -- nothing of this directory comes behind the place
  pub begun_behind : rows_from (name ∷ rest) tree ≡ [] → Begun place root names dirs
  begun_behind none = record {
    nested = record { start = tt; nest = nest_wider names 0 (length names) (length names + 1) dirs d.nest (omega arith) };
    rows = sym (d.rows ∙ ap (λ r. under_all names r ++ rows_open names dirs) none ∙ ap (λ r. r ++ rows_open names dirs) (under_all_none names));
  }

  own_taken : take (length names) names ≡ names
  own_taken = take_all (length names) names (omega arith)

  -- all these children come behind it
  pub begun_at : (children : Children) (depth : ℕ) (after : List OpenDir) → rows_from (name ∷ rest) tree ≡ from_children name rest (Some children) → from_children name rest (Some children) ≡ below (entries_of children)
      → depth ≡ length names → after ≡ dirs ++ opened depth (Some children) → Begun place root names after
  begun_at children depth after is whole deep more =
      let split : after ≡ dirs ++ opened (length names) (Some children) = more ∙ ap (λ n. dirs ++ opened n (Some children)) deep in
      record {
        nested = record {
          start = tt;
          nest = subst (Nest names 0 (length names + 1)) (sym split) (nest_opened names (length names) (length names) dirs (Some children) d.nest (omega arith));
        };
        rows = ap (rows_open names) split ∙ rows_opened names dirs (length names) (Some children) ∙ (λ j. under_all (own_taken j) (below (entries_of children)) ++ rows_open names dirs)
            ∙ ap (λ r. under_all names r ++ rows_open names dirs) (sym (is ∙ whole)) ∙ sym d.rows;
      }

  module _ (children : Children) (behind : Option Children) (depth : ℕ) (new : Path) (after : List OpenDir) where
    -- the place lies below the first of them
    pub down_on : rows_from (name ∷ rest) tree ≡ from_children name rest (Some children) → bytes_eq name children.name.now ≡ true → all_entries behind ≡ later_of children.later
        → depth ≡ length names → new ≡ names ++ children.name.now ∷ [] → after ≡ dirs ++ opened depth behind
        → (next : List ℕ) (others : Path) → rest ≡ next ∷ others → Down place root new after next others children.tree.now
    down_on is same later deep pushed more next others e =
        let k = children.name.now in
        let mine = names ++ k ∷ [] in
        let prefix : take (length names) mine ≡ names = take-append-le (length names) names (k ∷ []) (omega arith) ∙ own_taken in
        let kept : take (length names) names ++ k ∷ [] ≡ mine = ap (λ p. p ++ k ∷ []) own_taken in
        let child = rows_from rest children.tree.now in
        let split : after ≡ dirs ++ opened (length names) behind = more ∙ ap (λ n. dirs ++ opened n behind) deep in
        let here : rows_from (name ∷ rest) tree ≡ under k child ++ below (later_of children.later) = is ∙ ap (λ b. under k (cond b child children.tree.now) ++ below (later_of children.later)) same in
        let opened_rows : rows_open mine after ≡ under_all names (below (later_of children.later)) ++ rows_open names dirs =
        ap (rows_open mine) split ∙ rows_opened mine dirs (length names) behind
        ∙ (λ j. under_all (prefix j) (below (later j)) ++ (ap (λ p. rows_open p dirs) (sym kept) ∙ rows_kept names (k ∷ []) 0 (length names) dirs d.nest (omega arith)) j) in
        let all : rows_from place root ≡ under_all mine child ++ rows_open mine after =
        d.rows ∙ ap (λ r. under_all names r ++ rows_open names dirs) here ∙ ap (λ r. r ++ rows_open names dirs) (under_all-append names (under k child) (below (later_of children.later)))
        ∙ append_assoc (under_all names (under k child)) (under_all names (below (later_of children.later))) (rows_open names dirs)
        ∙ (λ j. sym (under_all-push names k child) j ++ sym opened_rows j) in
        let nest : Nest mine 0 (length names) dirs = subst (λ p. Nest p 0 (length names) dirs) kept (nest_kept names (k ∷ []) 0 (length names) dirs d.nest (omega arith)) in
        let long : length mine ≡ length names + 1 = length-append names (k ∷ []) in
        let own_nest = nest_opened mine (length names) (length names) dirs behind nest (omega arith) in
        subst (λ p. Down place root p after next others children.tree.now) (sym pushed) (record {
          rows = all ∙ ap (λ p. under_all mine (rows_from p children.tree.now) ++ rows_open mine after) e;
          nest = subst (λ n. Nest mine 0 n after) (sym long) (subst (Nest mine 0 (length names + 1)) (sym split) own_nest);
        })

-- the names after one was pushed
pub names_pushed : (old new : List (Bor (List ℕ))) (name : Bor (List ℕ)) (k : List ℕ) → new ≡ old ++ name ∷ [] → name.now ≡ k → lent_names new ≡ lent_names old ++ k ∷ []
names_pushed old new name k e is = ap lent_names e ∙ map-append deref old (name ∷ []) ∙ ap (λ n. lent_names old ++ n ∷ []) is
