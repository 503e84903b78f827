-- What the map's calls answer and leave, from where a search ended.
use mathlib.Core.Bool.{true≢false}
use Rattle.std.proofs.Common.{append-nil, length-append, Bool, false, cond, is_some, inl, ◌⊎◌, ◌≡◌, ℕ, zero, suc, ◌+◌, ◌<◌, ◌≤◌, true, List, [], ◌∷◌, ◌++◌, length, take, drop, set, append_assoc, Some, None, IfSome, Result, Ok, Err, IfOk, IfErr, slice_get, get_or, refl, sym, ap, subst, ◌∙◌, arith}
use Rattle.std.proofs.lemmas.List.{set_split}
use Rattle.std.proofs.lemmas.Option.{slice_get_read}
use Rattle.std.proofs.lemmas.List.Elements.{All-nil}
use Rattle.std.proofs.lemmas.Map.{keys-set_value, length-set_value}
use Rattle.std.specs.Global.{Vec}
use Rattle.std.specs.declared.cmp.Ordering.{Ordering}
use Rattle.std.specs.declared.cmp.Ordering.TheVariants.{Less, Equal}
use Rattle.std.specs.Ordering.{is_le, is_gt}
use Rattle.nn_sorted.specs.Values.{entries_from}
use Rattle.std.specs.Cmp.{IsTotalOrder}
use Rattle.std.specs.List.Sorted.{IsStrictlySortedBy}
use Rattle.std.specs.Map.{keys_of, lookup, remove_entry, set_value}
use Rattle.std.specs.BTreeMap.{insert_entry, is_at}
use Rattle.nn_sorted.specs.Chunks.{flat, before, after, AreFilled, to_first, IsFound, IsAbsent}
use Rattle.nn_sorted.proofs.Places.{joined, entry_at, entry_in, after_here}
use Rattle.nn_sorted.proofs.Changes.{at_chunk, has_more}
use Rattle.nn_sorted.proofs.Lookups.{IsAllAbove, lookup_past, remove_past, set_past, insert_past, lookup_here, remove_here, set_here, insert_here, insert_new, lookup_none, sorted_behind, sorted_without, sorted_with, length_with}

-- what a search answered
pub is_found : {K V : Type 0} (q : K → Ordering) (cs es : List (Vec (K × V))) (c p : ℕ) (r : Result ℕ ℕ) → es ≡ cs → r ≡ Ok p → IfOk r (IsFound q es c) → IsFound q cs c p
is_found q cs es c p r e o h = subst (λ l. IsFound q l c p) e (subst (λ s. IfOk s (IsFound q es c)) o h)

pub is_absent : {K V : Type 0} (q : K → Ordering) (cs es : List (Vec (K × V))) (c p : ℕ) (r : Result ℕ ℕ) → es ≡ cs → r ≡ Err p → IfErr r (IsAbsent q es c) → IsAbsent q cs c p
is_absent q cs es c p r e o h = subst (λ l. IsAbsent q l c p) e (subst (λ s. IfErr s (IsAbsent q es c)) o h)

flat_written : {X : Type 0} (cs : List (Vec X)) (c p : ℕ) (e : X) (y : Vec X) → c < length cs → IfSome (slice_get cs c) (λ x. (y.items ≡ set x.items p e) × (p < length x.items)) → flat (set cs c y) ≡ before cs c p ++ e ∷ after cs c (suc p)
flat_written [] c p e y l h = absurd (omega arith)
flat_written (x ∷ cs) zero p e y l h = ap (λ l. l ++ flat cs) (h.0 ∙ set_split x.items p e h.1) ∙ append_assoc (take p x.items) (e ∷ drop (suc p) x.items) (flat cs)
flat_written (x ∷ cs) (suc c) p e y l h = ap (λ l. x.items ++ l) (flat_written cs c p e y (omega arith) h) ∙ sym (append_assoc x.items (before cs c p) (e ∷ after cs c (suc p)))

-- where the key stands: chunk c is x
module _ {K V : Type 0} (q : K → Ordering) (cs : List (Vec (K × V))) (c p : ℕ) (x : Vec (K × V)) (f : IsFound q cs c p) (at : x ≡ get_or cs c x) where
  chunk : slice_get cs c ≡ Some x
  chunk = slice_get_read cs (length cs) c x refl f.in_chunks at

  pub within : p < length x.items
  within = has_more cs c (suc p) x chunk f.in_chunk

  -- and its entry e
  module _ (e : K × V) (is : e ≡ get_or x.items p e) where
    here : entry_at cs c p ≡ Some e
    here = entry_in cs c p x chunk ∙ slice_get_read x.items (length x.items) p e refl within is

    whole : flat cs ≡ before cs c p ++ e ∷ after cs c (suc p)
    whole = sym (joined cs c p) ∙ ap (λ l. before cs c p ++ l) (after_here cs c p e here)

    equal : q e.0 ≡ Equal
    equal = ap (to_first q) (sym (after_here cs c p e here)) ∙ f.same

    pub looked_up : lookup (is_at q) (flat cs) ≡ Some e.1
    looked_up = ap (lookup (is_at q)) whole ∙ lookup_past q (before cs c p) (e ∷ after cs c (suc p)) f.above ∙ lookup_here q e (after cs c (suc p)) equal

    module _ (w : V) (y : Vec (K × V)) (h : y.items ≡ set x.items p (e.0, w)) where
      written_here : flat (set cs c y) ≡ before cs c p ++ (e.0, w) ∷ after cs c (suc p)
      written_here = flat_written cs c p (e.0, w) y f.in_chunks (at_chunk (λ z. (y.items ≡ set z.items p (e.0, w)) × (p < length z.items)) cs c x chunk (h, within))

      pub written : flat (set cs c y) ≡ set_value (is_at q) (flat cs) w
      written =
          written_here ∙ ap (λ l. before cs c p ++ l) (sym (set_here q e (after cs c (suc p)) w equal))
          ∙ sym (ap (λ l. set_value (is_at q) l w) whole ∙ set_past q (before cs c p) (e ∷ after cs c (suc p)) w f.above)

      pub written_sorted : (cmp : K → K → Ordering) → IsStrictlySortedBy cmp (keys_of (flat cs)) → IsStrictlySortedBy cmp (keys_of (flat (set cs c y)))
      written_sorted cmp s = subst (IsStrictlySortedBy cmp) (sym (ap keys_of written ∙ keys-set_value (is_at q) (flat cs) w)) s

      pub written_length : length (flat (set cs c y)) ≡ length (flat cs)
      written_length = ap length written ∙ length-set_value (is_at q) (flat cs) w

-- where the key stands nowhere
module _ {K V : Type 0} (q : K → Ordering) (cs : List (Vec (K × V))) (c p : ℕ) (f : IsAbsent q cs c p) where
  pub not_there : (cmp : K → K → Ordering) → ((x y : K) → is_le (q x) ≡ true → cmp x y ≡ Less → q y ≡ Less) → IsStrictlySortedBy cmp (keys_of (flat cs)) → lookup (is_at q) (flat cs) ≡ None
  not_there cmp law s =
      ap (lookup (is_at q)) (sym (joined cs c p)) ∙ lookup_past q (before cs c p) (after cs c p) f.above
      ∙ lookup_none q {cmp = cmp} law (after cs c p) (sorted_behind cmp (before cs c p) (after cs c p) (subst (λ l. IsStrictlySortedBy cmp (keys_of l)) (sym (joined cs c p)) s)) f.below

-- a loan that ends alike, whatever is written
pub ends_alike : {N A B C : Type 0} {n : N} {F G : A → B} → ((w : A) → F w ≡ G w) → ◌≡◌ {A = (N × (A → B)) ⊎ C} (inl (n, F)) (inl (n, G))
ends_alike {n = n} h = λ i. inl (n, λ w. h w i)

-- an empty map
pub starts : {K V : Type 0} (cmp : K → K → Ordering) (cs : List (Vec (K × V))) → cs ≡ [] → AreFilled cs × IsStrictlySortedBy cmp (keys_of (flat cs)) × (0 ≡ length (flat cs)) × (0 < 9223372036854775808)
unfolding IsStrictlySortedBy
starts {K} {V} cmp cs h = subst (λ l. AreFilled l × IsStrictlySortedBy cmp (keys_of (flat l)) × (0 ≡ length (flat l)) × (0 < 9223372036854775808)) (sym h) (All-nil (λ (x : Vec (K × V)). 1 ≤ length x.items), tt, refl, omega arith)

-- a new entry (k, v) where the key stood nowhere, which makes the entries es
module _ {K V : Type 0} {cmp : K → K → Ordering} (o : IsTotalOrder cmp) (k : K) (v : V) (cs : List (Vec (K × V))) (c p : ℕ) (f : IsAbsent (cmp k) cs c p) (es : List (K × V)) (h : es ≡ before cs c p ++ (k, v) ∷ after cs c p) where
  pub entered : es ≡ insert_entry cmp (flat cs) k v
  entered =
      h ∙ ap (λ l. before cs c p ++ l) (sym (insert_new cmp k v (after cs c p) f.below))
      ∙ sym (ap (λ l. insert_entry cmp l k v) (sym (joined cs c p)) ∙ insert_past cmp k v (before cs c p) (after cs c p) f.above)

  pub entered_sorted : IsStrictlySortedBy cmp (keys_of (flat cs)) → IsStrictlySortedBy cmp (keys_of es)
  entered_sorted s = subst (λ l. IsStrictlySortedBy cmp (keys_of l)) (sym h) (sorted_with cmp o k v (before cs c p) (after cs c p) (subst (λ l. IsStrictlySortedBy cmp (keys_of l)) (sym (joined cs c p)) s) f.above f.below)

  pub entered_length : length es ≡ length (flat cs) + 1
  entered_length = ap length h ∙ length_with (before cs c p) (after cs c p) (k, v) ∙ ap (λ l. length l + 1) (joined cs c p)

-- a value v in place of the one that was there, which makes chunk y of chunk x
module _ {K V : Type 0} (cmp : K → K → Ordering) (k : K) (v : V) (cs : List (Vec (K × V))) (c p : ℕ) (x y : Vec (K × V)) (f : IsFound (cmp k) cs c p) (at : x ≡ get_or cs c x) (e : K × V) (is : e ≡ get_or x.items p e) (h : y.items ≡ set x.items p (e.0, v)) where
  pub replaced : flat (set cs c y) ≡ insert_entry cmp (flat cs) k v
  replaced =
      written_here (cmp k) cs c p x f at e is v y h ∙ ap (λ l. before cs c p ++ l) (sym (insert_here cmp k v e (after cs c (suc p)) (equal (cmp k) cs c p x f at e is)))
      ∙ sym (ap (λ l. insert_entry cmp l k v) (whole (cmp k) cs c p x f at e is) ∙ insert_past cmp k v (before cs c p) (e ∷ after cs c (suc p)) f.above)

-- the entry e of the key taken out, which leaves the entries es
module _ {K V : Type 0} (q : K → Ordering) (cs : List (Vec (K × V))) (c p : ℕ) (f : IsFound q cs c p) (e : K × V) (es : List (K × V)) (t : after cs c p ≡ e ∷ after cs c (p + 1)) (h : es ≡ before cs c p ++ after cs c (p + 1)) where
  was : flat cs ≡ before cs c p ++ e ∷ after cs c (p + 1)
  was = sym (joined cs c p) ∙ ap (λ l. before cs c p ++ l) t

  same_key : q e.0 ≡ Equal
  same_key = ap (to_first q) (sym t) ∙ f.same

  pub taken_value : lookup (is_at q) (flat cs) ≡ Some e.1
  taken_value = ap (lookup (is_at q)) was ∙ lookup_past q (before cs c p) (e ∷ after cs c (p + 1)) f.above ∙ lookup_here q e (after cs c (p + 1)) same_key

  pub taken_out : es ≡ remove_entry (is_at q) (flat cs)
  taken_out =
      h ∙ ap (λ l. before cs c p ++ l) (sym (remove_here q e (after cs c (p + 1)) same_key))
      ∙ sym (ap (remove_entry (is_at q)) was ∙ remove_past q (before cs c p) (e ∷ after cs c (p + 1)) f.above)

  pub taken_sorted : (cmp : K → K → Ordering) → IsStrictlySortedBy cmp (keys_of (flat cs)) → IsStrictlySortedBy cmp (keys_of es)
  taken_sorted cmp s = subst (λ l. IsStrictlySortedBy cmp (keys_of l)) (sym h) (sorted_without cmp (before cs c p) e (after cs c (p + 1)) (subst (λ l. IsStrictlySortedBy cmp (keys_of l)) was s))

  pub taken_length : length (flat cs) ≡ length es + 1
  taken_length = ap length was ∙ length_with (before cs c p) (after cs c (p + 1)) e ∙ ap (λ l. length l + 1) (sym h)

-- where the key stands nowhere, a removal leaves the entries
module _ {K V : Type 0} (q : K → Ordering) where
  pub nothing_removed : (es : List (K × V)) → lookup (is_at q) es ≡ None → remove_entry (is_at q) es ≡ es
  nothing_removed [] n = refl
  nothing_removed (e ∷ es) n = by (is_at q e.0) refl (nothing_removed es)
    where
      by : (b : Bool) → is_at q e.0 ≡ b → (lookup (is_at q) es ≡ None → remove_entry (is_at q) es ≡ es) → remove_entry (is_at q) (e ∷ es) ≡ e ∷ es
      by true h r = absurd (true≢false (ap is_some (sym (ap (λ b. cond b (Some e.1) (lookup (is_at q) es)) h) ∙ n)))
      by false h r = ap (λ b. cond b es (e ∷ remove_entry (is_at q) es)) h ∙ ap (λ l. e ∷ l) (r (sym (ap (λ b. cond b (Some e.1) (lookup (is_at q) es)) h) ∙ n))

-- the last entry taken out
module _ {K V : Type 0} (cs : List (Vec (K × V))) (es : List (K × V)) (e : K × V) (h : flat cs ≡ es ++ e ∷ []) where
  pub front_sorted : (cmp : K → K → Ordering) → IsStrictlySortedBy cmp (keys_of (flat cs)) → IsStrictlySortedBy cmp (keys_of es)
  front_sorted cmp s = subst (λ l. IsStrictlySortedBy cmp (keys_of l)) (append-nil es) (sorted_without cmp es e [] (subst (λ l. IsStrictlySortedBy cmp (keys_of l)) h s))

  pub front_length : length (flat cs) ≡ length es + 1
  front_length = ap length h ∙ length_with es [] e ∙ ap (λ l. length l + 1) (append-nil es)

-- chunks without entries are none
pub no_chunks : {X : Type 0} (cs : List (Vec X)) → AreFilled cs → flat cs ≡ [] → length cs ≡ 0
no_chunks [] f h = refl
no_chunks (x ∷ cs) f h = absurd (omega (arith, f 0 x (omega arith), ap length h, length-append x.items (flat cs)))

-- the entries from a query on
module _ {K V : Type 0} (q : K → Ordering) where
  entries_past : (xs ys : List (K × V)) → IsAllAbove q xs → entries_from q (xs ++ ys) ≡ entries_from q ys
  entries_past [] ys a = refl
  entries_past (x ∷ xs) ys a = ap (λ r. cond (is_gt r) (entries_from q (xs ++ ys)) (x ∷ xs ++ ys)) a.0 ∙ entries_past xs ys a.1

  entries_here : (ys : List (K × V)) → is_gt (to_first q ys) ≡ false → entries_from q ys ≡ ys
  entries_here [] n = refl
  entries_here (y ∷ ys) n = ap (λ b. cond b (entries_from q ys) (y ∷ ys)) n

  from_place : (cs : List (Vec (K × V))) (c p : ℕ) → IsAllAbove q (before cs c p) → is_gt (to_first q (after cs c p)) ≡ false → after cs c p ≡ entries_from q (flat cs)
  from_place cs c p a n = sym (entries_here (after cs c p) n) ∙ sym (entries_past (before cs c p) (after cs c p) a) ∙ ap (entries_from q) (joined cs c p)

  pub from_found : (cs : List (Vec (K × V))) (c p : ℕ) → IsFound q cs c p → after cs c p ≡ entries_from q (flat cs)
  from_found cs c p f = from_place cs c p f.above (ap is_gt f.same)

  pub from_absent : (cs : List (Vec (K × V))) (c p : ℕ) → IsAbsent q cs c p → after cs c p ≡ entries_from q (flat cs)
  from_absent cs c p f = from_place cs c p f.above (ap is_gt f.below)
