-- `SortedMap` as a type that may hold the type that holds it, by its values.
use Rattle.std.specs.Prelude.{◌≡◌, ℕ, ◌≤◌, ◌<◌, List, [], ◌∷◌, ◌++◌, ◌^◌, map, length, max}
use mathlib.Core.Path.{refl, sym, ap, subst, ◌∙◌}
use mathlib.Core.Former.{Former, Row, Count, none_left, this, const, pair, list, list_count, list_put, via, children}
use native.Mathlib.Nat.{ℕ_set}
use native.Mathlib.Bridge.{le_prop}
use denote.RattleType.{RattleType}
use denote.HoleLaws.{Alike}
use denote.HolePlaces.{Recodes, struct_places, laid, stays}
use denote.Hole.Carrier.{listed}
use denote.Hole.Fix.{over}
use base.Stored.{code_map, coded×, gcons}
use denote.Param.Nested.{deepest}
use denote.Param.Weighed.{Weighed, most, none_max, List-puts, w_pair, w_const}
use denote.Model.Placed.{view_places, Held}
use denote.Struct.Tuple.{Tuple, tuple_type}
use Rattle.std.specs.formers.vec.Vec as vec
use Rattle.std.specs.contracts.vec.Vec as vec_row
use Rattle.std.specs.declared.alloc.Global.{Global}
use Rattle.std.specs.contracts.alloc.Global as heap
use Rattle.std.specs.contracts.impls.GlobalAllocator.TheImpl.{ghosts}
use Rattle.std.specs.declared.cmp.Ord as ord
use Rattle.std.specs.declared.cmp.PartialEq as eq
use Rattle.std.specs.declared.cmp.PartialOrd as partial
use Rattle.std.specs.Global.{Vec}
use Rattle.std.specs.List.{AllByRecursion as ByRecursion}
use Rattle.std.proofs.lemmas.List.Elements.{All-from_recursion, recursion_from_All}
use lib.ListN.{length-map}
use mathlib.Core.List.{map-append}
use Rattle.std.specs.List.Sorted.{IsStrictlySortedBy, IsStrictlySortedBy-prop}
use Rattle.std.specs.Map.{keys_of, values_of}
use Rattle.nn_sorted.specs.Chunks.{flat, AreFilled}
use Rattle.nn_sorted.specs.declared.map.SortedMap.TheInside.{Inside}
use Rattle.nn_sorted.specs.declared.map.SortedMap.TheView.{view, invariant}
use Rattle.nn_sorted.specs.contracts.map.SortedMap as C
use Rattle.nn_sorted.specs.contracts.map.SortedMap.TheInside as I

-- a key beside one of g's values
abbrev pub entry : Former {0} → Type 0 → Former {0}
entry g K = pair (const K) g

-- the entry, with h applied to its value
abbrev pub on_value : {K X Y : Type 0} → (X → Y) → K × X → K × Y
on_value h p = (p.0, h p.1)

most_values : {K Y : Type 0} (f : Y → ℕ) (es : List (K × Y)) → most (λ p. max 0 (f p.1)) es ≡ most f (values_of es)
most_values f [] = refl
most_values f (e ∷ es) = λ i. max (sym (none_max (f e.1)) i) (most_values f es i)

pub entries_puts : {g : Former {0}} (w : Weighed g) (K X : Type 0) (μ : X → ℕ) (es : List (K × g.Of X)) (n : Count) (t : Row X n)
    → deepest μ (list_count (entry g K) (map ((entry g K).shape X) es) n) (list_put (entry g K) X es n t) ≡ max (most (w.weight X μ) (values_of es)) (deepest μ n t)
entries_puts w K X μ es n t = List-puts (w_pair (w_const K) w) X μ es n t ∙ ap (λ a. max a (deepest μ n t)) (most_values (w.weight X μ) es)

values_listed : (K X : Type 0) (es : List (K × X)) → listed _ (children (list (entry this K)) X es) ≡ values_of es
values_listed K X [] = refl
values_listed K X (e ∷ es) = ap (λ l. e.1 ∷ l) (values_listed K X es)

keys_on_values : {K X Y : Type 0} (h : X → Y) (es : List (K × X)) → keys_of (map (on_value h) es) ≡ keys_of es
keys_on_values h [] = refl
keys_on_values h (e ∷ es) = ap (λ l. e.0 ∷ l) (keys_on_values h es)

abbrev pub the_former : Former {0} → Type 0 → Former {0}
the_former g K = list (entry g K)

abbrev pub the_weighed : {g : Former {0}} → Weighed g → (K : Type 0) → Weighed (the_former g K)
the_weighed w K = record { weight = λ X μ m. most (w.weight X μ) (values_of m); puts = λ X μ m. entries_puts w K X μ m }

pub the_empty : (K : Type 0) → K → List (K × ⊥)
the_empty K k = []

abbrev pub the_items : (K X : Type 0) → List (K × X) → List X
the_items K X m = values_of m

pub the_items_listed : (K X : Type 0) (m : List (K × X)) → listed _ (children (the_former this K) X m) ≡ the_items K X m
the_items_listed K X m = values_listed K X m

-- ---- what the chunks hold is what their entries hold

flat_over : {X Y : Type 0} (h : X → Y) (cs : List (Vec X)) → flat (map (vec.mapped h) cs) ≡ map h (flat cs)
flat_over h [] = refl
flat_over h (c ∷ cs) = ap (λ l. map h c.items ++ l) (flat_over h cs) ∙ sym (map-append h c.items (flat cs))

filled_over : {X Y : Type 0} (h : X → Y) (cs : List (Vec X)) → ByRecursion (λ c. 1 ≤ length c.items) cs → ByRecursion (λ c. 1 ≤ length c.items) (map (vec.mapped h) cs)
filled_over h [] f = tt
filled_over h (c ∷ cs) f = (subst (λ n. 1 ≤ n) (sym (length-map c.items h)) f.0, filled_over h cs f.1)

filled_back : {X Y : Type 0} (h : X → Y) (cs : List (Vec X)) → ByRecursion (λ c. 1 ≤ length c.items) (map (vec.mapped h) cs) → ByRecursion (λ c. 1 ≤ length c.items) cs
filled_back h [] f = tt
filled_back h (c ∷ cs) f = (subst (λ n. 1 ≤ n) (length-map c.items h) f.0, filled_back h cs f.1)

module _ (f : Former {0}) (X : Type 0) where
  -- what x holds, before what is held already
  abbrev holding : f.Of X → Held X → Held X
  holding x p = (f.count (f.shape X x) p.0, f.put X x p.0 p.1)

  abbrev all_holding : List (f.Of X) → Held X → Held X
  all_holding xs p = (list_count f (map (f.shape X) xs) p.0, list_put f X xs p.0 p.1)

  both_holding : (xs ys : List (f.Of X)) (p : Held X) → all_holding (xs ++ ys) p ≡ all_holding xs (all_holding ys p)
  both_holding [] ys p = refl
  both_holding (x ∷ xs) ys p = ap (holding x) (both_holding xs ys p)

chunks_holding : (f : Former {0}) (X : Type 0) (cs : List (Vec (f.Of X))) (p : Held X) → all_holding f X (flat cs) p ≡ all_holding (vec.the_former f Global) X cs p
chunks_holding f X [] p = refl
chunks_holding f X (c ∷ cs) p = both_holding f X c.items (flat cs) p ∙ ap (all_holding f X c.items) (chunks_holding f X cs p)

abbrev fields : Type 0 → Former {0}
fields K = via (pair (vec.the_former (vec.the_former (entry this K) Global) Global) (const (ℕ × ℕ × Global))) (λ X. Inside K X) (λ X a. (a.chunks, (a.len, a.recent, a.alloc)))
    (λ X v. record { chunks = v.0; len = v.1.0; recent = v.1.1; alloc = v.1.2 }) (λ X a. refl) (λ X v. refl)

module _ (K : RattleType) (G : ord.Ghosts K.Denot) (G' : eq.Ghosts K.Denot) (G'' : partial.Ghosts K.Denot) (R R' : RattleType) (h : R.Denot → R'.Denot) where
  abbrev Sound : {X : Type 0} → ℕ → List (Vec (K.Denot × X)) → Type 0
  Sound n cs = AreFilled cs × IsStrictlySortedBy G.cmp (keys_of (flat cs)) × (n ≡ length (flat cs)) × (n < 2 ^ 63)

  Sound-prop : {X : Type 0} (n : ℕ) (cs : List (Vec (K.Denot × X))) → IsProp (Sound n cs)
  Sound-prop n cs p q = λ i. ((λ k d l. le_prop (p.0 k d l) (q.0 k d l) i), IsStrictlySortedBy-prop G.cmp _ p.1 q.1 i, ℕ_set _ _ p.2 q.2 i, le_prop p.3 q.3 i)

  same_keys : (cs : List (Vec (K.Denot × R.Denot))) → keys_of (flat (map (vec.mapped (on_value h)) cs)) ≡ keys_of (flat cs)
  same_keys cs = ap keys_of (flat_over (on_value h) cs) ∙ keys_on_values h (flat cs)

  same_length : (cs : List (Vec (K.Denot × R.Denot))) → length (flat (map (vec.mapped (on_value h)) cs)) ≡ length (flat cs)
  same_length cs = ap length (flat_over (on_value h) cs) ∙ length-map (flat cs) (on_value h)

  abbrev entry_row : RattleType → RattleType
  entry_row Q = Tuple (K ∷ Q ∷ [])

  entry_places : Alike R R' h → Alike (entry_row R) (entry_row R') (on_value h)
  entry_places a = struct_places (tuple_type (K ∷ R ∷ [])) (tuple_type (K ∷ R' ∷ [])) ((λ k. k), (h, tt)) (on_value h) (λ d. refl) refl (stays K, (laid R R' h a, tt))

  abbrev rows_of : RattleType → RattleType
  rows_of Q = vec_row.the_row Q heap.the_row ghosts

  chunks_places : Alike R R' h → Alike (rows_of (rows_of (entry_row R))) (rows_of (rows_of (entry_row R'))) (vec.mapped (vec.mapped (on_value h)))
  chunks_places a = vec.the_places heap.the_row ghosts (rows_of (entry_row R)) (rows_of (entry_row R')) (vec.mapped (on_value h)) (vec.the_places heap.the_row ghosts (entry_row R) (entry_row R') (on_value h) (entry_places a))

  sound_over : (n : ℕ) (cs : List (Vec (K.Denot × R.Denot))) → Sound n cs → Sound n (map (vec.mapped (on_value h)) cs)
  sound_over n cs s = (
    All-from_recursion (λ c. 1 ≤ length c.items) _ (filled_over (on_value h) cs (recursion_from_All (λ c. 1 ≤ length c.items) cs s.0)),
    subst (IsStrictlySortedBy G.cmp) (sym (same_keys cs)) s.1,
    s.2 ∙ sym (same_length cs),
    s.3,
  )

  sound_back : (n : ℕ) (cs : List (Vec (K.Denot × R.Denot))) → Sound n (map (vec.mapped (on_value h)) cs) → Sound n cs
  sound_back n cs s = (
    All-from_recursion (λ c. 1 ≤ length c.items) cs (filled_back (on_value h) cs (recursion_from_All (λ c. 1 ≤ length c.items) _ s.0)),
    subst (IsStrictlySortedBy G.cmp) (same_keys cs) s.1,
    s.2 ∙ same_length cs,
    s.3,
  )

  pub the_places : Alike R R' h → Alike (C.the_row K R G G' G'') (C.the_row K R' G G' G'') ((the_former this K.Denot).map R.Denot R'.Denot h)
  the_places a = view_places (fields K.Denot) (the_former this K.Denot) (λ X. view K.Denot X G G' G'')
      (λ X Y k u. flat_over (on_value k) u.chunks.items) (λ X u. chunks_holding (entry this K.Denot) X u.chunks.items (none_left, tt))
      R.Denot R'.Denot h (C.the_row K R G G' G'').coded (C.the_row K R' G G' G'').coded
      (invariant K.Denot R.Denot G G' G'') (invariant K.Denot R'.Denot G G' G'') (λ u. Sound-prop u.len u.chunks.items) (λ u. Sound-prop u.len u.chunks.items)
      (λ u s. sound_over u.len u.chunks.items s) (λ u s. sound_back u.len u.chunks.items s)
      (over (I.the_row K R G G' G'')) (over (I.the_row K R' G G' G''))
      (struct_places (I.the_type K R G G' G'') (I.the_type K R' G G' G'') (vec.mapped (vec.mapped (on_value h)), (λ n. n, (λ n. n, (λ n. n, tt)))) _ (λ d. refl) refl
      (laid _ _ _ (chunks_places a), ((refl, (λ n. refl, λ n. refl)), ((refl, (λ n. refl, λ n. refl)), ((refl, (λ n. refl, λ n. refl)), tt)))))

  pub the_codes_placed : Recodes R R' h → Recodes (C.the_row K R G G' G'') (C.the_row K R' G G' G'') ((the_former this K.Denot).map R.Denot R'.Denot h)
  the_codes_placed e m = sym (code_map (coded× K.coded R.coded).code (coded× K.coded R'.coded).code (on_value h) (λ x i. gcons (K.coded.code x.0) (sym (e x.1) i)) m)
