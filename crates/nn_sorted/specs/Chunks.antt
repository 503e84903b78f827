-- Entries in chunks.
use Rattle.std.specs.Prelude.{◌≡◌, ℕ, zero, suc, ◌+◌, ◌<◌, ◌≤◌, List, [], ◌∷◌, ◌++◌, length, false, take, drop, Some, IfSome}
use Rattle.std.specs.declared.cmp.Ordering.{Ordering}
use Rattle.std.specs.declared.cmp.Ordering.TheVariants.{Less, Equal, Greater}
use Rattle.std.specs.Ordering.{is_lt}
use Rattle.std.specs.List.{All, AllByRecursion, slice_get}
use Rattle.std.specs.Global.{Vec}

module _ {X : Type 0} where
  -- the entries of all chunks, one chunk after another
  abbrev pub flat : List (Vec X) → List X
  flat [] = []
  flat (c ∷ cs) = c.items ++ flat cs

  -- no chunk is empty
  abbrev pub AreFilled : List (Vec X) → Type 0
  AreFilled cs = All (λ c. 1 ≤ length c.items) cs

  -- what stands before place p of chunk c, and what stands there and behind it
  abbrev pub before : List (Vec X) → ℕ → ℕ → List X
  before [] c p = []
  before (x ∷ cs) zero p = take p x.items
  before (x ∷ cs) (suc c) p = x.items ++ before cs c p

  abbrev pub after : List (Vec X) → ℕ → ℕ → List X
  after [] c p = []
  after (x ∷ cs) zero p = drop p x.items ++ flat cs
  after (x ∷ cs) (suc c) p = after cs c p

  -- chunk c has at least n entries
  abbrev pub HasEntries : List (Vec X) → ℕ → ℕ → Type 0
  HasEntries cs c n = IfSome (slice_get cs c) (λ x. n ≤ length x.items)

  -- chunk c of cs is two chunks of ds, the first one with n entries
  pub record IsCut (cs : List (Vec X)) (c n : ℕ) (ds : List (Vec X)) : Type 0 where
    pub low : (p : ℕ) → p ≤ n → HasEntries ds c p × (before ds c p ≡ before cs c p) × (after ds c p ≡ after cs c p)
    pub high : (p : ℕ) → HasEntries cs c (n + p) → HasEntries ds (suc c) p × (before ds (suc c) p ≡ before cs c (n + p)) × (after ds (suc c) p ≡ after cs c (n + p))
    pub longer : length ds ≡ suc (length cs)

  -- at place r of chunk d of ds stands what stands at place p of chunk c of cs, and so does what stands before it
  pub record IsSamePlace (cs : List (Vec X)) (c p : ℕ) (ds : List (Vec X)) (d r : ℕ) : Type 0 where
    pub in_chunks : d < length ds
    pub in_chunk : HasEntries ds d r
    pub front : before ds d r ≡ before cs c p
    pub behind : after ds d r ≡ after cs c p

-- of a key, which compares to each other one by `compare`
module _ {K V : Type 0} (compare : K → Ordering) where
  -- how it compares to the first of these entries; it stands before none
  abbrev pub to_first : List (K × V) → Ordering
  to_first [] = Less
  to_first (e ∷ es) = compare e.0

  -- it stands at place p of chunk c
  pub record IsFound (cs : List (Vec (K × V))) (c p : ℕ) : Type 0 where
    pub in_chunks : c < length cs
    pub in_chunk : HasEntries cs c (suc p)
    pub above : AllByRecursion (λ e. compare e.0 ≡ Greater) (before cs c p)
    pub same : to_first (after cs c p) ≡ Equal

  -- it stands nowhere, and would go to place p of chunk c; the chunk may be still to come
  pub record IsAbsent (cs : List (Vec (K × V))) (c p : ℕ) : Type 0 where
    pub in_chunks : c ≤ length cs
    pub in_chunk : HasEntries cs c p
    pub above : AllByRecursion (λ e. compare e.0 ≡ Greater) (before cs c p)
    pub below : to_first (after cs c p) ≡ Less

  -- the chunk before chunk n begins at the key or below it
  abbrev pub IsBegun : List (Vec (K × V)) → ℕ → Type 0
  IsBegun cs n = (j : ℕ) (c : Vec (K × V)) → j + 1 ≡ n → slice_get cs j ≡ Some c → is_lt (to_first c.items) ≡ false

  -- chunk n begins above the key
  abbrev pub IsAhead : List (Vec (K × V)) → ℕ → Type 0
  IsAhead cs n = (c : Vec (K × V)) → slice_get cs n ≡ Some c → to_first c.items ≡ Less

  -- the key stands at place i of these entries
  pub record IsHere (es : List (K × V)) (i : ℕ) : Type 0 where
    pub in_range : i < length es
    pub same : IfSome (slice_get es i) (λ e. compare e.0 ≡ Equal)

  -- it is above the entry before place i
  pub record IsAbove (es : List (K × V)) (i : ℕ) : Type 0 where
    pub in_range : i ≤ length es
    pub above : (j : ℕ) (e : K × V) → j + 1 ≡ i → slice_get es j ≡ Some e → compare e.0 ≡ Greater

  -- it is below the entry at place i
  abbrev pub IsBelow : List (K × V) → ℕ → Type 0
  IsBelow es i = IfSome (slice_get es i) (λ e. compare e.0 ≡ Less)
