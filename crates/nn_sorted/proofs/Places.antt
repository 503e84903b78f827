-- The two parts of entries in chunks around a place, and what a search knows of them.
use Rattle.std.proofs.Common.{◌≡◌, ℕ, zero, suc, ◌+◌, ◌<◌, ◌≤◌, true, false, List, [], ◌∷◌, ◌++◌, length, take, drop, append_assoc, Option, Some, None, IfSome, is_some, Result, Ok, Err, IfOk, IfErr, slice_get, refl, sym, ap, subst, ◌∙◌, arith}
use Rattle.std.proofs.Math.Seq.{drop-cons, take-suc}
use Rattle.std.proofs.lemmas.List.{take-append-drop}
use Rattle.std.proofs.lemmas.Option.{slice_get_within, get_or_from_slice_get}
use mathlib.Core.Bool.{true≢false}
use Rattle.std.specs.Global.{Vec}
use Rattle.std.specs.declared.cmp.Ordering.{Ordering}
use Rattle.std.specs.declared.cmp.Ordering.TheVariants.{Less, Equal, Greater}
use Rattle.std.specs.Ordering.{is_eq, is_lt, is_le}
use Rattle.std.specs.List.{AllByRecursion}
use Rattle.std.specs.List.Sorted.{IsStrictlySortedBy}
use Rattle.std.specs.Map.{keys_of}
use Rattle.std.proofs.lemmas.Map.Keys.{sorted_head, sorted_tail}
use Rattle.std.proofs.lemmas.List.Elements.{All-head, All-tail}
use Rattle.nn_sorted.specs.Chunks.{flat, before, after, AreFilled, to_first, IsFound, IsAbsent, IsBegun, IsAhead, IsHere, IsAbove, IsBelow}

if_some : {A : Type 0} (P : A → Type 0) (o : Option A) (x : A) → o ≡ Some x → IfSome o P → P x
if_some P o x e h = subst (λ u. IfSome u P) e h

some_if : {A : Type 0} (P : A → Type 0) (o : Option A) (x : A) → o ≡ Some x → P x → IfSome o P
some_if P o x e h = subst (λ u. IfSome u P) (sym e) h

pub equal_of : (r : Ordering) → is_eq r ≡ true → r ≡ Equal
equal_of Less e = absurd (true≢false (sym e))
equal_of Equal e = refl
equal_of Greater e = absurd (true≢false (sym e))

module _ {X : Type 0} where
  -- both parts together
  pub joined : (cs : List (Vec X)) (c p : ℕ) → before cs c p ++ after cs c p ≡ flat cs
  joined [] c p = refl
  joined (x ∷ cs) zero p = sym (append_assoc (take p x.items) (drop p x.items) (flat cs)) ∙ ap (λ l. l ++ flat cs) (take-append-drop p x.items)
  joined (x ∷ cs) (suc c) p = append_assoc x.items (before cs c p) (after cs c p) ∙ ap (λ l. x.items ++ l) (joined cs c p)

  -- the entry at place p of chunk c
  abbrev pub entry_at : List (Vec X) → ℕ → ℕ → Option X
  entry_at [] c p = None
  entry_at (x ∷ cs) zero p = slice_get x.items p
  entry_at (x ∷ cs) (suc c) p = entry_at cs c p

  pub entry_in : (cs : List (Vec X)) (c p : ℕ) (x : Vec X) → slice_get cs c ≡ Some x → entry_at cs c p ≡ slice_get x.items p
  entry_in [] c p x h = absurd (true≢false (sym (ap is_some h)))
  entry_in (y ∷ cs) zero p x h = ap (λ o. slice_get (or y o).items p) h
    where
      or : Vec X → Option (Vec X) → Vec X
      or d None = d
      or d (Some v) = v
  entry_in (y ∷ cs) (suc c) p x h = entry_in cs c p x h

  dropped : (xs : List X) (p : ℕ) (e : X) → slice_get xs p ≡ Some e → drop p xs ≡ e ∷ drop (suc p) xs
  dropped xs p e h = drop-cons xs p e (slice_get_within xs p e h) ∙ ap (λ x. x ∷ drop (suc p) xs) (get_or_from_slice_get xs p e e h)

  taken : (xs : List X) (p : ℕ) (e : X) → slice_get xs p ≡ Some e → take (suc p) xs ≡ take p xs ++ e ∷ []
  taken xs p e h = take-suc xs p e (slice_get_within xs p e h) ∙ ap (λ x. take p xs ++ x ∷ []) (get_or_from_slice_get xs p e e h)

  past : (xs : List X) (p : ℕ) → slice_get xs p ≡ None → drop p xs ≡ []
  past [] zero h = refl
  past [] (suc p) h = refl
  past (x ∷ xs) zero h = absurd (true≢false (ap is_some h))
  past (x ∷ xs) (suc p) h = past xs p h

  -- the entry at a place is the first one of what stands there and behind it
  pub after_here : (cs : List (Vec X)) (c p : ℕ) (e : X) → entry_at cs c p ≡ Some e → after cs c p ≡ e ∷ after cs c (suc p)
  after_here [] c p e h = absurd (true≢false (sym (ap is_some h)))
  after_here (x ∷ cs) zero p e h = ap (λ l. l ++ flat cs) (dropped x.items p e h)
  after_here (x ∷ cs) (suc c) p e h = after_here cs c p e h

  -- and the last one of what stands before the next place
  pub before_next : (cs : List (Vec X)) (c p : ℕ) (e : X) → entry_at cs c p ≡ Some e → before cs c (suc p) ≡ before cs c p ++ e ∷ []
  before_next [] c p e h = absurd (true≢false (sym (ap is_some h)))
  before_next (x ∷ cs) zero p e h = taken x.items p e h
  before_next (x ∷ cs) (suc c) p e h = ap (λ l. x.items ++ l) (before_next cs c p e h) ∙ sym (append_assoc x.items (before cs c p) (e ∷ []))

  start : (cs : List (Vec X)) → flat cs ≡ after cs 0 0
  start [] = refl
  start (x ∷ cs) = refl

  -- behind the end of a chunk comes the next one
  pub after_end : (cs : List (Vec X)) (c p : ℕ) → entry_at cs c p ≡ None → after cs c p ≡ after cs (suc c) 0
  after_end [] c p h = refl
  after_end (x ∷ cs) zero p h = ap (λ l. l ++ flat cs) (past x.items p h) ∙ start cs
  after_end (x ∷ cs) (suc c) p h = after_end cs c p h

  some_at : (xs : List X) (i : ℕ) → i < length xs → (e : X) × (slice_get xs i ≡ Some e)
  some_at [] i l = absurd (omega arith)
  some_at (x ∷ xs) zero l = (x, refl)
  some_at (x ∷ xs) (suc i) l = some_at xs i (omega arith)

  push : (P : X → Type 0) (xs : List X) (e : X) → AllByRecursion P xs → P e → AllByRecursion P (xs ++ e ∷ [])
  push P [] e a h = (h, tt)
  push P (x ∷ xs) e a h = (a.0, push P xs e a.1 h)

-- a key that compares to the others by q
module _ {K : Type 0} {cmp : K → K → Ordering} (q : K → Ordering) (law : (x y : K) → is_le (q x) ≡ true → cmp x y ≡ Less → q y ≡ Less) where
  above_one : (x y : K) → cmp x y ≡ Less → is_lt (q y) ≡ false → q x ≡ Greater
  above_one x y l n = by (q x) refl
    where
      by : (r : Ordering) → q x ≡ r → q x ≡ Greater
      by Less e = absurd (true≢false (sym (ap is_lt (law x y (ap is_le e) l)) ∙ n))
      by Equal e = absurd (true≢false (sym (ap is_lt (law x y (ap is_le e) l)) ∙ n))
      by Greater e = e

module _ {K V : Type 0} {cmp : K → K → Ordering} (q : K → Ordering) (law : (x y : K) → is_le (q x) ≡ true → cmp x y ≡ Less → q y ≡ Less) where
  pick : (P : K → Type 0) (xs : List (K × V)) (e : K × V) (ys : List (K × V)) → AllByRecursion P (keys_of (xs ++ e ∷ ys)) → P e.0
  pick P [] e ys a = a.0
  pick P (x ∷ xs) e ys a = pick P xs e ys a.1

  -- a key that is not below an entry is above those before it
  all_above : (xs : List (K × V)) (e : K × V) (ys : List (K × V)) → IsStrictlySortedBy cmp (keys_of (xs ++ e ∷ ys)) → is_lt (q e.0) ≡ false → AllByRecursion (λ x. q x.0 ≡ Greater) xs
  all_above [] e ys s n = tt
  all_above (x ∷ xs) e ys s n =
      (above_one {cmp = cmp} q law x.0 e.0 (pick (λ y. cmp x.0 y ≡ Less) xs e ys (sorted_head cmp x.0 (keys_of (xs ++ e ∷ ys)) s)) n, all_above xs e ys (sorted_tail cmp x.0 (keys_of (xs ++ e ∷ ys)) s) n)

  above_at : (cs : List (Vec (K × V))) (c p : ℕ) (e : K × V) → IsStrictlySortedBy cmp (keys_of (flat cs)) → entry_at cs c p ≡ Some e → is_lt (q e.0) ≡ false → AllByRecursion (λ x. q x.0 ≡ Greater) (before cs c p)
  above_at cs c p e s h n =
      all_above (before cs c p) e (after cs c (suc p)) (subst (λ l. IsStrictlySortedBy cmp (keys_of l)) (sym (joined cs c p) ∙ ap (λ l. before cs c p ++ l) (after_here cs c p e h)) s) n

  -- where the chunk has the key
  pub found : (cs : List (Vec (K × V))) (c p : ℕ) (x : Vec (K × V)) → IsStrictlySortedBy cmp (keys_of (flat cs)) → slice_get cs c ≡ Some x → IsHere q x.items p → IsFound q cs c p
  found cs c p x s at here =
      let e = some_at x.items p here.in_range in
      let h : entry_at cs c p ≡ Some e.0 = entry_in cs c p x at ∙ e.1 in
      let same = if_some (λ y. q y.0 ≡ Equal) (slice_get x.items p) e.0 e.1 here.same in
      record {
        in_chunks = slice_get_within cs c x at;
        in_chunk = some_if (λ y. suc p ≤ length y.items) (slice_get cs c) x at here.in_range;
        above = above_at cs c p e.0 s h (ap is_lt same);
        same = ap (to_first q) (after_here cs c p e.0 h) ∙ same;
      }

  to_front : (xs ys : List (K × V)) → 1 ≤ length xs → to_first q (xs ++ ys) ≡ to_first q xs
  to_front [] ys l = absurd (omega arith)
  to_front (x ∷ xs) ys l = refl

  -- the key is below a chunk that begins above it, and below nothing
  pub below_next : (cs : List (Vec (K × V))) (n : ℕ) → AreFilled cs → IsAhead q cs n → to_first q (after cs n 0) ≡ Less
  below_next [] n f a = refl
  below_next (x ∷ cs) zero f a = to_front x.items (flat cs) (All-head (λ y. 1 ≤ length y.items) x cs f) ∙ a x refl
  below_next (x ∷ cs) (suc n) f a = below_next cs n (All-tail (λ y. 1 ≤ length y.items) x cs f) a

  below_here : (cs : List (Vec (K × V))) (c p : ℕ) (x : Vec (K × V)) → AreFilled cs → IsAhead q cs (suc c) → slice_get cs c ≡ Some x → IsBelow q x.items p → to_first q (after cs c p) ≡ Less
  below_here cs c p x f a at below = by (slice_get x.items p) refl
    where
      by : (o : Option (K × V)) → slice_get x.items p ≡ o → to_first q (after cs c p) ≡ Less
      by None e = ap (to_first q) (after_end cs c p (entry_in cs c p x at ∙ e)) ∙ below_next cs (suc c) f a
      by (Some y) e = ap (to_first q) (after_here cs c p y (entry_in cs c p x at ∙ e)) ∙ if_some (λ z. q z.0 ≡ Less) (slice_get x.items p) y e below

  begun_above : (xs : List (K × V)) → is_lt (to_first q xs) ≡ false → IfSome (slice_get xs 0) (λ e. q e.0 ≡ Less) → ⊥
  begun_above [] n l = true≢false n
  begun_above (x ∷ xs) n l = true≢false (sym (ap is_lt l) ∙ n)

  -- behind an only chunk comes none
  none_behind : (cs : List (Vec (K × V))) → length cs ≡ 1 → IsAhead q cs 1
  none_behind cs one c at = absurd (let within = slice_get_within cs 1 c at in omega (arith, within, one))

  -- the key stands behind an entry of the chunk, and nowhere
  absent_behind : (cs : List (Vec (K × V))) (c p : ℕ) (x : Vec (K × V)) → IsStrictlySortedBy cmp (keys_of (flat cs)) → AreFilled cs → IsAhead q cs (suc c) → slice_get cs c ≡ Some x
      → IsAbove q x.items (suc p) → IsBelow q x.items (suc p) → IsAbsent q cs c (suc p)
  absent_behind cs c p x s f a at above below =
      let e = some_at x.items p (omega (arith, above.in_range)) in
      let h : entry_at cs c p ≡ Some e.0 = entry_in cs c p x at ∙ e.1 in
      let up = above.above p e.0 (omega arith) e.1 in
      record {
        in_chunks = omega (arith, slice_get_within cs c x at);
        in_chunk = some_if (λ y. suc p ≤ length y.items) (slice_get cs c) x at above.in_range;
        above = subst (AllByRecursion (λ y. q y.0 ≡ Greater)) (sym (before_next cs c p e.0 h)) (push (λ y. q y.0 ≡ Greater) (before cs c p) e.0 (above_at cs c p e.0 s h (ap is_lt up)) up);
        below = below_here cs c (suc p) x f a at below;
      }

  -- where the chunk, the last one that begins at the key or below it, has it not
  pub absent : (cs : List (Vec (K × V))) (c p : ℕ) (x : Vec (K × V)) → IsStrictlySortedBy cmp (keys_of (flat cs)) → AreFilled cs → IsBegun q cs (suc c) → IsAhead q cs (suc c) → slice_get cs c ≡ Some x
      → IsAbove q x.items p → IsBelow q x.items p → IsAbsent q cs c p
  absent cs c zero x s f b a at above below = absurd (begun_above x.items (b c x (omega arith) at) below)
  absent cs c (suc p) x s f b a at above below = absent_behind cs c p x s f a at above below

  -- where the only chunk has it not
  alone : (cs : List (Vec (K × V))) (p : ℕ) (x : Vec (K × V)) → IsStrictlySortedBy cmp (keys_of (flat cs)) → AreFilled cs → length cs ≡ 1 → slice_get cs 0 ≡ Some x
      → IsAbove q x.items p → IsBelow q x.items p → IsAbsent q cs 0 p
  alone cs (suc p) x s f one at above below = absent_behind cs 0 p x s f (none_behind cs one) at above below
  alone [] zero x s f one at above below = absurd (true≢false (sym (ap is_some at)))
  alone (y ∷ cs) zero x s f one at above below = record {
    in_chunks = omega arith;
    in_chunk = omega arith;
    above = tt;
    below = below_here (y ∷ cs) 0 0 x f (none_behind (y ∷ cs) one) at below;
  }

  -- the same of what a search of the chunk answers
  pub found_in : (cs : List (Vec (K × V))) (c : ℕ) (x : Vec (K × V)) (es : List (K × V)) (r : Result ℕ ℕ) → IsStrictlySortedBy cmp (keys_of (flat cs)) → slice_get cs c ≡ Some x → es ≡ x.items → IfOk r (IsHere q es) → IfOk r (IsFound q cs c)
  found_in cs c x es (Ok p) s at e h = found cs c p x s at (subst (λ l. IsHere q l p) e h)
  found_in cs c x es (Err p) s at e h = tt

  pub absent_in : (cs : List (Vec (K × V))) (c : ℕ) (x : Vec (K × V)) (es : List (K × V)) (r : Result ℕ ℕ) → IsStrictlySortedBy cmp (keys_of (flat cs)) → AreFilled cs → IsBegun q cs (suc c) → IsAhead q cs (suc c) → slice_get cs c ≡ Some x → es ≡ x.items
      → IfErr r (λ p. IsAbove q es p × IsBelow q es p) → IfErr r (IsAbsent q cs c)
  absent_in cs c x es (Ok p) s f b a at e h = tt
  absent_in cs c x es (Err p) s f b a at e h = absent cs c p x s f b a at (subst (λ l. IsAbove q l p) e h.0) (subst (λ l. IsBelow q l p) e h.1)

  pub absent_alone : (cs : List (Vec (K × V))) (x : Vec (K × V)) (es : List (K × V)) (r : Result ℕ ℕ) → IsStrictlySortedBy cmp (keys_of (flat cs)) → AreFilled cs → length cs ≡ 1 → slice_get cs 0 ≡ Some x → es ≡ x.items
      → IfErr r (λ p. IsAbove q es p × IsBelow q es p) → IfErr r (IsAbsent q cs 0)
  absent_alone cs x es (Ok p) s f one at e h = tt
  absent_alone cs x es (Err p) s f one at e h = alone cs p x s f one at (subst (λ l. IsAbove q l p) e h.0) (subst (λ l. IsBelow q l p) e h.1)

  -- where no chunk begins at the key or below it
  pub absent_at_start : (cs : List (Vec (K × V))) → AreFilled cs → IsAhead q cs 0 → IsAbsent q cs 0 0
  absent_at_start [] f a = record { in_chunks = omega arith; in_chunk = tt; above = tt; below = refl }
  absent_at_start (x ∷ cs) f a = record { in_chunks = omega arith; in_chunk = omega arith; above = tt; below = below_next (x ∷ cs) 0 f a }

  -- where a look at a place finds an entry of the key
  pub found_at : (cs : List (Vec (K × V))) (c p : ℕ) (x : Vec (K × V)) (e : K × V) → IsStrictlySortedBy cmp (keys_of (flat cs)) → slice_get cs c ≡ Some x → slice_get x.items p ≡ Some e → q e.0 ≡ Equal → IsFound q cs c p
  found_at cs c p x e s at h same = found cs c p x s at (record { in_range = slice_get_within x.items p e h; same = some_if (λ y. q y.0 ≡ Equal) (slice_get x.items p) e h same })

  past_end : (P : K × V → Type 0) (xs : List (K × V)) (n : ℕ) → length xs ≤ n → IfSome (slice_get xs n) P
  past_end P [] n l = tt
  past_end P (x ∷ xs) zero l = absurd (omega (arith, l))
  past_end P (x ∷ xs) (suc n) l = past_end P xs n (omega (arith, l))

  last_alone : (xs : List (K × V)) (p j : ℕ) (e y : K × V) → slice_get xs p ≡ Some e → q e.0 ≡ Greater → j + 1 ≡ suc p → slice_get xs j ≡ Some y → q y.0 ≡ Greater
  last_alone xs p j e y h up n at =
      let same : j ≡ p = omega (arith, n) in
      if_some (λ z. q z.0 ≡ Greater) (slice_get xs p) y (subst (λ k. slice_get xs k ≡ Some y) same at) (some_if (λ z. q z.0 ≡ Greater) (slice_get xs p) e h up)

  -- where the key is above the last entry of all
  pub absent_at_end : (cs : List (Vec (K × V))) (c p n : ℕ) (x : Vec (K × V)) (e : K × V) → IsStrictlySortedBy cmp (keys_of (flat cs)) → AreFilled cs → suc c ≡ length cs → slice_get cs c ≡ Some x → suc p ≡ length x.items → slice_get x.items p ≡ Some e → q e.0 ≡ Greater
      → suc p ≡ n → IsAbsent q cs c n
  absent_at_end cs c p n x e s f last at end h up next =
      subst (IsAbsent q cs c) next
      (absent_behind cs c p x s f (λ y g. absurd (let within = slice_get_within cs (suc c) y g in omega (arith, within, last))) at
      (record { in_range = omega (arith, end); above = λ j y n g. last_alone x.items p j e y h up n g })
      (past_end (λ y. q y.0 ≡ Less) x.items (suc p) (omega (arith, end))))
