-- What becomes of entries in chunks where one chunk changes.
use Rattle.std.proofs.Common.{◌==◌, eqb-true, ◌≡◌, ℕ, zero, suc, ◌+◌, ◌<◌, ◌≤◌, true, List, [], ◌∷◌, ◌++◌, length, take, drop, set, append_assoc, append-nil, Some, IfSome, Result, Ok, Err, OnOk, OnErr, is_ok, if◌then◌else◌, slice_get, get_or, refl, sym, ap, subst, ◌∙◌, arith}
use Rattle.std.specs.List.{insert, remove}
use Rattle.std.proofs.Math.Seq.{take-add}
use Rattle.std.proofs.lemmas.List.{take-append-drop, take_all, drop_all, drop-drop, take-take, drop-append-le, length-take, length-drop, length-append, length-set, nil_from_length, take-set}
use Rattle.std.proofs.lemmas.List.Elements.{All-nil, All-cons, All-head, All-tail, All-set, All-append, All-take, All-drop}
use Rattle.std.specs.Global.{Vec}
use Rattle.std.proofs.lemmas.Option.{slice_get_read, get_or_from_slice_get}
use Rattle.nn_sorted.specs.Chunks.{flat, before, after, AreFilled, HasEntries, IsCut, IsSamePlace}
use Rattle.nn_sorted.proofs.Places.{joined, entry_in, after_here}

module _ {X : Type 0} where
  pub flat-append : (cs ds : List (Vec X)) → flat (cs ++ ds) ≡ flat cs ++ flat ds
  flat-append [] ds = refl
  flat-append (c ∷ cs) ds = ap (λ l. c.items ++ l) (flat-append cs ds) ∙ sym (append_assoc c.items (flat cs) (flat ds))

  -- a chunk whose entries stay
  pub flat_same : (cs : List (Vec X)) (c : ℕ) (y : Vec X) → IfSome (slice_get cs c) (λ x. y.items ≡ x.items) → flat (set cs c y) ≡ flat cs
  flat_same [] c y h = refl
  flat_same (x ∷ cs) zero y h = ap (λ l. l ++ flat cs) h
  flat_same (x ∷ cs) (suc c) y h = ap (λ l. x.items ++ l) (flat_same cs c y h)

  -- a chunk into which an entry comes
  pub flat_put : (cs : List (Vec X)) (c p : ℕ) (e : X) (y : Vec X) → c < length cs → IfSome (slice_get cs c) (λ x. y.items ≡ insert x.items p e) → flat (set cs c y) ≡ before cs c p ++ e ∷ after cs c p
  flat_put [] c p e y l h = absurd (omega arith)
  flat_put (x ∷ cs) zero p e y l h = ap (λ l. l ++ flat cs) h ∙ append_assoc (take p x.items) (e ∷ drop p x.items) (flat cs)
  flat_put (x ∷ cs) (suc c) p e y l h = ap (λ l. x.items ++ l) (flat_put cs c p e y (omega arith) h) ∙ sym (append_assoc x.items (before cs c p) (e ∷ after cs c p))

  -- behind the end of the last chunk stands nothing
  pub at_end : (cs : List (Vec X)) (c p : ℕ) → c + 1 ≡ length cs → IfSome (slice_get cs c) (λ x. p ≡ length x.items) → (before cs c p ≡ flat cs) × (after cs c p ≡ [])
  at_end [] c p l h = absurd (omega arith)
  at_end (x ∷ []) zero p l h = (take_all p x.items (omega (arith, h)) ∙ sym (append-nil x.items), ap (λ d. d ++ []) (drop_all p x.items (omega (arith, h))))
  at_end (x ∷ y ∷ cs) zero p l h = absurd (omega arith)
  at_end (x ∷ cs) (suc c) p l h = let t = at_end cs c p (omega arith) h in (ap (λ l. x.items ++ l) t.0, t.1)

  filled_one : (x : Vec X) → 1 ≤ length x.items → AreFilled (x ∷ [])
  filled_one x h = All-cons (λ c. 1 ≤ length c.items) x [] h (All-nil (λ c. 1 ≤ length c.items))

  -- chunk c in two: the first with n entries, the second with the others
  abbrev pub AreHalves : ℕ → Vec X → Vec X → Vec X → Type 0
  AreHalves n low high x = (low.items ≡ take n x.items) × (high.items ≡ drop n x.items) × (n ≤ length x.items)

  abbrev pub in_two : List (Vec X) → ℕ → Vec X → Vec X → List (Vec X)
  in_two cs c low high = insert (set cs c low) (suc c) high

  low_entries : (cs : List (Vec X)) (c n p : ℕ) (low high : Vec X) → IfSome (slice_get cs c) (AreHalves n low high) → c < length cs → p ≤ n → HasEntries (in_two cs c low high) c p
  low_entries [] c n p low high h l le = absurd (omega arith)
  low_entries (x ∷ cs) zero n p low high h l le = omega (arith, ap length h.0, length-take n x.items, h.2)
  low_entries (x ∷ cs) (suc c) n p low high h l le = low_entries cs c n p low high h (omega arith) le

  low_before : (cs : List (Vec X)) (c n p : ℕ) (low high : Vec X) → IfSome (slice_get cs c) (AreHalves n low high) → c < length cs → p ≤ n → before (in_two cs c low high) c p ≡ before cs c p
  low_before [] c n p low high h l le = absurd (omega arith)
  low_before (x ∷ cs) zero n p low high h l le = ap (take p) h.0 ∙ take-take p n x.items le
  low_before (x ∷ cs) (suc c) n p low high h l le = ap (λ l. x.items ++ l) (low_before cs c n p low high h (omega arith) le)

  low_after : (cs : List (Vec X)) (c n p : ℕ) (low high : Vec X) → IfSome (slice_get cs c) (AreHalves n low high) → c < length cs → p ≤ n → after (in_two cs c low high) c p ≡ after cs c p
  low_after [] c n p low high h l le = absurd (omega arith)
  low_after (x ∷ cs) zero n p low high h l le =
      sym (append_assoc (drop p low.items) high.items (flat cs))
      ∙ ap (λ d. d ++ flat cs) ((λ i. drop p (h.0 i) ++ h.1 i) ∙ sym (drop-append-le p (take n x.items) (drop n x.items) (omega (arith, length-take n x.items, h.2))) ∙ ap (drop p) (take-append-drop n x.items))
  low_after (x ∷ cs) (suc c) n p low high h l le = low_after cs c n p low high h (omega arith) le

  high_entries : (cs : List (Vec X)) (c n p : ℕ) (low high : Vec X) → IfSome (slice_get cs c) (AreHalves n low high) → c < length cs → HasEntries cs c (n + p) → HasEntries (in_two cs c low high) (suc c) p
  high_entries [] c n p low high h l le = absurd (omega arith)
  high_entries (x ∷ cs) zero n p low high h l le = omega (arith, ap length h.1, length-drop n x.items, h.2, le)
  high_entries (x ∷ cs) (suc c) n p low high h l le = high_entries cs c n p low high h (omega arith) le

  high_before : (cs : List (Vec X)) (c n p : ℕ) (low high : Vec X) → IfSome (slice_get cs c) (AreHalves n low high) → c < length cs → before (in_two cs c low high) (suc c) p ≡ before cs c (n + p)
  high_before [] c n p low high h l = absurd (omega arith)
  high_before (x ∷ cs) zero n p low high h l = (λ i. h.0 i ++ take p (h.1 i)) ∙ sym (take-add n p x.items)
  high_before (x ∷ cs) (suc c) n p low high h l = ap (λ l. x.items ++ l) (high_before cs c n p low high h (omega arith))

  high_after : (cs : List (Vec X)) (c n p : ℕ) (low high : Vec X) → IfSome (slice_get cs c) (AreHalves n low high) → c < length cs → after (in_two cs c low high) (suc c) p ≡ after cs c (n + p)
  high_after [] c n p low high h l = absurd (omega arith)
  high_after (x ∷ cs) zero n p low high h l = ap (λ d. drop p d ++ flat cs) h.1 ∙ ap (λ d. d ++ flat cs) (drop-drop p n x.items)
  high_after (x ∷ cs) (suc c) n p low high h l = high_after cs c n p low high h (omega arith)

  long_in_two : (cs : List (Vec X)) (c : ℕ) (low high : Vec X) → c < length cs → length (in_two cs c low high) ≡ suc (length cs)
  long_in_two [] c low high l = absurd (omega arith)
  long_in_two (x ∷ cs) zero low high l = refl
  long_in_two (x ∷ cs) (suc c) low high l = ap suc (long_in_two cs c low high (omega arith))

  pub filled_in_two : (cs : List (Vec X)) (c n : ℕ) (low high : Vec X) → c < length cs → 1 ≤ n → IfSome (slice_get cs c) (λ x. AreHalves n low high x × (n < length x.items)) → AreFilled cs → AreFilled (in_two cs c low high)
  filled_in_two [] c n low high l o h f = absurd (omega arith)
  filled_in_two (x ∷ cs) zero n low high l o h f =
      let tail = All-cons (λ c. 1 ≤ length c.items) high cs (omega (arith, ap length h.0.1, length-drop n x.items, h.1)) (All-tail (λ c. 1 ≤ length c.items) x cs f) in
      All-cons (λ c. 1 ≤ length c.items) low (high ∷ cs) (omega (arith, ap length h.0.0, length-take n x.items, h.1, o)) tail
  filled_in_two (x ∷ cs) (suc c) n low high l o h f =
      All-cons (λ c. 1 ≤ length c.items) x (in_two cs c low high) (All-head (λ c. 1 ≤ length c.items) x cs f) (filled_in_two cs c n low high (omega arith) o h (All-tail (λ c. 1 ≤ length c.items) x cs f))

  pub is_cut : (cs : List (Vec X)) (c n : ℕ) (low high : Vec X) → c < length cs → IfSome (slice_get cs c) (AreHalves n low high) → IsCut cs c n (in_two cs c low high)
  is_cut cs c n low high l h = record {
    low = λ p le. (low_entries cs c n p low high h l le, low_before cs c n p low high h l le, low_after cs c n p low high h l le);
    high = λ p le. (high_entries cs c n p low high h l le, high_before cs c n p low high h l, high_after cs c n p low high h l);
    longer = long_in_two cs c low high l;
  }

  pub at_chunk : (P : Vec X → Type 0) (cs : List (Vec X)) (c : ℕ) (x : Vec X) → slice_get cs c ≡ Some x → P x → IfSome (slice_get cs c) P
  at_chunk P cs c x at h = subst (λ o. IfSome o P) (sym at) h

  -- after an insert into a chunk
  pub put_ok : {U E : Type 0} (r : Result U E) (cs : List (Vec X)) (c p : ℕ) (e : X) (x y : Vec X) → c < length cs → x ≡ get_or cs c x → y.items ≡ (if is_ok r then insert x.items p e else x.items) → OnOk r (flat (set cs c y) ≡ before cs c p ++ e ∷ after cs c p)
  put_ok (Ok u) cs c p e x y l at h = flat_put cs c p e y l (at_chunk (λ z. y.items ≡ insert z.items p e) cs c x (slice_get_read cs (length cs) c x refl l at) h)
  put_ok (Err u) cs c p e x y l at h = tt

  pub put_err : {U E : Type 0} (r : Result U E) (cs : List (Vec X)) (c p : ℕ) (e : X) (x y : Vec X) → c < length cs → x ≡ get_or cs c x → y.items ≡ (if is_ok r then insert x.items p e else x.items) → OnErr r (flat (set cs c y) ≡ flat cs)
  put_err (Ok u) cs c p e x y l at h = tt
  put_err (Err u) cs c p e x y l at h = flat_same cs c y (at_chunk (λ z. y.items ≡ z.items) cs c x (slice_get_read cs (length cs) c x refl l at) h)

  -- behind the last chunk stands nothing
  pub past_end : (cs : List (Vec X)) (c p : ℕ) → c ≡ length cs → (before cs c p ≡ flat cs) × (after cs c p ≡ [])
  past_end [] c p l = (refl, refl)
  past_end (x ∷ cs) zero p l = absurd (omega arith)
  past_end (x ∷ cs) (suc c) p l = let t = past_end cs c p (omega arith) in (ap (λ l. x.items ++ l) t.0, t.1)

  -- nor behind the end of the last chunk
  pub at_last_end : (cs : List (Vec X)) (c p : ℕ) (x : Vec X) → c + 1 ≡ length cs → slice_get cs c ≡ Some x → p ≡ length x.items → (before cs c p ≡ flat cs) × (after cs c p ≡ [])
  at_last_end cs c p x l at n = at_end cs c p l (at_chunk (λ z. p ≡ length z.items) cs c x at n)

  pub added_behind : {U E : Type 0} (r : Result U E) (cs ds : List (Vec X)) (c p : ℕ) (e : X) → (before cs c p ≡ flat cs) × (after cs c p ≡ []) → OnOk r (flat ds ≡ flat cs ++ e ∷ []) → OnOk r (flat ds ≡ before cs c p ++ e ∷ after cs c p)
  added_behind (Ok u) cs ds c p e t h = h ∙ (λ i. sym t.0 i ++ e ∷ sym t.1 i)
  added_behind (Err u) cs ds c p e t h = tt

  -- at the same place in other chunks
  pub same_entries : (cs ds : List (Vec X)) (c p d r : ℕ) → IsSamePlace cs c p ds d r → flat ds ≡ flat cs
  same_entries cs ds c p d r h = sym (joined ds d r) ∙ (λ i. h.front i ++ h.behind i) ∙ joined cs c p

  pub put_there : {U E : Type 0} (o : Result U E) (cs ds : List (Vec X)) (c p d r : ℕ) (new : List X) (e : X) → IsSamePlace cs c p ds d r → OnOk o (new ≡ before ds d r ++ e ∷ after ds d r) → OnOk o (new ≡ before cs c p ++ e ∷ after cs c p)
  put_there (Ok u) cs ds c p d r new e h k = k ∙ (λ i. h.front i ++ e ∷ h.behind i)
  put_there (Err u) cs ds c p d r new e h k = tt

  pub on_err_then : {U E : Type 0} (r : Result U E) (xs ys zs : List X) → OnErr r (xs ≡ ys) → ys ≡ zs → OnErr r (xs ≡ zs)
  on_err_then (Ok u) xs ys zs h k = tt
  on_err_then (Err u) xs ys zs h k = h ∙ k

  -- what a chunk is cut into, of chunks for which room was made first
  abbrev pub Cuts : List (Vec X) → List (Vec X) → ℕ → ℕ → Vec X → Vec X → Vec X → List (Vec X) → Type 0
  Cuts cs bs c n x low high ds = (bs ≡ cs) × (x ≡ get_or bs c x) × (low.items ≡ take n x.items) × (high.items ≡ drop n x.items) × (ds ≡ insert (set bs c low) (c + 1) high)

  pub has_more : (cs : List (Vec X)) (c n : ℕ) (x : Vec X) → slice_get cs c ≡ Some x → HasEntries cs c n → n ≤ length x.items
  has_more cs c n x at h = subst (λ o. IfSome o (λ z. n ≤ length z.items)) at h

  in_both : (cs bs ds : List (Vec X)) (c n : ℕ) (x low high : Vec X) → Cuts cs bs c n x low high ds → ds ≡ in_two cs c low high
  in_both cs bs ds c n x low high h = let next : c + 1 ≡ suc c = omega arith in h.4 ∙ (λ i. insert (set (h.0 i) c low) (next i) high)

  pub cut_done : (cs bs ds : List (Vec X)) (c n : ℕ) (x low high : Vec X) → c < length cs → HasEntries cs c (suc n) → Cuts cs bs c n x low high ds → IsCut cs c n ds
  cut_done cs bs ds c n x low high l e h =
      let at : slice_get cs c ≡ Some x = slice_get_read cs (length cs) c x refl l (h.1 ∙ ap (λ b. get_or b c x) h.0) in
      let more = has_more cs c (suc n) x at e in
      subst (IsCut cs c n) (sym (in_both cs bs ds c n x low high h)) (is_cut cs c n low high l (at_chunk (AreHalves n low high) cs c x at (h.2, h.3, omega (arith, more))))

  pub cut_filled : (cs bs ds : List (Vec X)) (c n : ℕ) (x low high : Vec X) → c < length cs → HasEntries cs c (suc n) → 1 ≤ n → AreFilled cs → Cuts cs bs c n x low high ds → AreFilled ds
  cut_filled cs bs ds c n x low high l e o f h =
      let at : slice_get cs c ≡ Some x = slice_get_read cs (length cs) c x refl l (h.1 ∙ ap (λ b. get_or b c x) h.0) in
      let more = has_more cs c (suc n) x at e in
      subst AreFilled (sym (in_both cs bs ds c n x low high h))
      (filled_in_two cs c n low high l o (at_chunk (λ z. AreHalves n low high z × (n < length z.items)) cs c x at ((h.2, h.3, omega (arith, more)), omega (arith, more))) f)

  -- ---- an entry is taken out

  flat_taken : (cs : List (Vec X)) (c p : ℕ) (y : Vec X) → c < length cs → IfSome (slice_get cs c) (λ x. y.items ≡ remove x.items p) → flat (set cs c y) ≡ before cs c p ++ after cs c (suc p)
  flat_taken [] c p y l h = absurd (omega arith)
  flat_taken (x ∷ cs) zero p y l h = ap (λ l. l ++ flat cs) h ∙ append_assoc (take p x.items) (drop (suc p) x.items) (flat cs)
  flat_taken (x ∷ cs) (suc c) p y l h = ap (λ l. x.items ++ l) (flat_taken cs c p y (omega arith) h) ∙ sym (append_assoc x.items (before cs c p) (after cs c (suc p)))

  flat_removed : (cs : List (Vec X)) (c : ℕ) → IfSome (slice_get cs c) (λ x. x.items ≡ []) → flat (remove cs c) ≡ flat cs
  flat_removed [] zero h = refl
  flat_removed [] (suc c) h = refl
  flat_removed (x ∷ cs) zero h = sym (ap (λ l. l ++ flat cs) h)
  flat_removed (x ∷ cs) (suc c) h = ap (λ l. x.items ++ l) (flat_removed cs c h)

  remove_set : (cs : List (Vec X)) (c : ℕ) (y : Vec X) → remove (set cs c y) c ≡ remove cs c
  remove_set [] c y = refl
  remove_set (x ∷ cs) zero y = refl
  remove_set (x ∷ cs) (suc c) y = ap (λ l. x ∷ l) (remove_set cs c y)

  get_set : (cs : List (Vec X)) (c : ℕ) (y : Vec X) → c < length cs → slice_get (set cs c y) c ≡ Some y
  get_set [] c y l = absurd (omega arith)
  get_set (x ∷ cs) zero y l = refl
  get_set (x ∷ cs) (suc c) y l = get_set cs c y (omega arith)

  filled_removed : (cs : List (Vec X)) (c : ℕ) → AreFilled cs → AreFilled (remove cs c)
  filled_removed cs c f = All-append (λ x. 1 ≤ length x.items) (take c cs) (drop (suc c) cs) (All-take (λ x. 1 ≤ length x.items) c cs f) (All-drop (λ x. 1 ≤ length x.items) (suc c) cs f)

  -- entry e at place p of chunk c, which is x, is taken out, and leaves y
  abbrev pub Takes : List (Vec X) → ℕ → ℕ → X → Vec X → Vec X → Type 0
  Takes cs c p e x y = (c < length cs) × (x ≡ get_or cs c x) × (p < length x.items) × (e ≡ get_or x.items p e) × (y.items ≡ remove x.items p)

  pub takes : (cs : List (Vec X)) (c p : ℕ) (e : X) (x y : Vec X) → c < length cs → HasEntries cs c (p + 1) → x ≡ get_or cs c x → e ≡ get_or x.items p e → y.items ≡ remove x.items p → Takes cs c p e x y
  takes cs c p e x y l n at i h = let more = has_more cs c (p + 1) x (slice_get_read cs (length cs) c x refl l at) n in (l, at, omega (arith, more), i, h)

  pub emptied : (cs : List (Vec X)) (c : ℕ) (y v : Vec X) → c < length cs → v ≡ get_or (set cs c y) c v → true ≡ (v.len == 0) → y.items ≡ []
  emptied cs c y v l at n =
      let same : v ≡ y = at ∙ get_or_from_slice_get (set cs c y) c y v (get_set cs c y l) in
      nil_from_length y.items (omega (arith, v.ok, eqb-true v.len 0 (sym n), ap (λ w. length w.items) same))

  chunk_of : (cs : List (Vec X)) (c p : ℕ) (e : X) (x y : Vec X) → Takes cs c p e x y → slice_get cs c ≡ Some x
  chunk_of cs c p e x y h = slice_get_read cs (length cs) c x refl h.0 h.1

  pub taken : (cs : List (Vec X)) (c p : ℕ) (e : X) (x y : Vec X) → Takes cs c p e x y → after cs c p ≡ e ∷ after cs c (p + 1)
  taken cs c p e x y h =
      let next : suc p ≡ p + 1 = omega arith in
      after_here cs c p e (entry_in cs c p x (chunk_of cs c p e x y h) ∙ slice_get_read x.items (length x.items) p e refl h.2 h.3) ∙ ap (λ n. e ∷ after cs c n) next

  pub left_in : (cs : List (Vec X)) (c p : ℕ) (e : X) (x y : Vec X) → Takes cs c p e x y → flat (set cs c y) ≡ before cs c p ++ after cs c (p + 1)
  left_in cs c p e x y h =
      let next : suc p ≡ p + 1 = omega arith in
      flat_taken cs c p y h.0 (at_chunk (λ z. y.items ≡ remove z.items p) cs c x (chunk_of cs c p e x y h) h.4) ∙ ap (λ n. before cs c p ++ after cs c n) next

  pub left_out : (cs : List (Vec X)) (c p : ℕ) (e : X) (x y : Vec X) → Takes cs c p e x y → y.items ≡ [] → flat (remove (set cs c y) c) ≡ before cs c p ++ after cs c (p + 1)
  left_out cs c p e x y h n = flat_removed (set cs c y) c (at_chunk (λ z. z.items ≡ []) (set cs c y) c y (get_set cs c y h.0) n) ∙ left_in cs c p e x y h

  pub filled_out : (cs : List (Vec X)) (c : ℕ) (y : Vec X) → AreFilled cs → AreFilled (remove (set cs c y) c)
  filled_out cs c y f = subst AreFilled (sym (remove_set cs c y)) (filled_removed cs c f)

  pub filled_in : (cs : List (Vec X)) (c : ℕ) (y : Vec X) → AreFilled cs → 1 ≤ length y.items → AreFilled (set cs c y)
  filled_in cs c y f n = All-set (λ x. 1 ≤ length x.items) cs c y n f

  -- ---- two chunks become one

  pub same_in : (cs : List (Vec X)) (c : ℕ) (x y : Vec X) → c < length cs → x ≡ get_or cs c x → y.items ≡ x.items → flat (set cs c y) ≡ flat cs
  same_in cs c x y l at h = flat_same cs c y (at_chunk (λ z. y.items ≡ z.items) cs c x (slice_get_read cs (length cs) c x refl l at) h)

  flat_join : (cs : List (Vec X)) (c : ℕ) (z : Vec X) → suc c < length cs → IfSome (slice_get cs (suc c)) (λ r. IfSome (slice_get cs c) (λ x. z.items ≡ x.items ++ r.items)) → flat (set (remove cs (suc c)) c z) ≡ flat cs
  flat_join [] c z l h = absurd (omega arith)
  flat_join (x ∷ []) zero z l h = absurd (omega arith)
  flat_join (x ∷ r ∷ cs) zero z l h = ap (λ l. l ++ flat cs) h ∙ append_assoc x.items r.items (flat cs)
  flat_join (x ∷ cs) (suc c) z l h = ap (λ l. x.items ++ l) (flat_join cs c z (omega arith) h)

  get_removed : (cs : List (Vec X)) (c : ℕ) → suc c < length cs → slice_get (remove cs (suc c)) c ≡ slice_get cs c
  get_removed [] c l = absurd (omega arith)
  get_removed (x ∷ cs) zero l = refl
  get_removed (x ∷ cs) (suc c) l = get_removed cs c (omega arith)

  -- chunk c, which is x and becomes y with the same entries, is joined by the next one, r: together they are z
  abbrev pub Joins : List (Vec X) → ℕ → Vec X → Vec X → Vec X → Vec X → Vec X → Type 0
  Joins cs c x y r w z = (c + 1 < length cs) × (x ≡ get_or cs c x) × (y.items ≡ x.items) × (r ≡ get_or (set cs c y) (c + 1) r) × (w ≡ get_or (remove (set cs c y) (c + 1)) c w) × (z.items ≡ w.items ++ r.items)

  module _ (cs : List (Vec X)) (c : ℕ) (x y r w z : Vec X) (h : Joins cs c x y r w z) where
    next : c + 1 ≡ suc c
    next = omega arith

    range : suc c < length (set cs c y)
    range = omega (arith, h.0, length-set cs c y)

    is_y : w ≡ y
    is_y =
        let e : slice_get (remove (set cs c y) (c + 1)) c ≡ Some y = ap (λ n. slice_get (remove (set cs c y) n) c) next ∙ get_removed (set cs c y) c range ∙ get_set cs c y (omega (arith, h.0)) in
        h.4 ∙ get_or_from_slice_get (remove (set cs c y) (c + 1)) c y w e

    pub joins_flat : flat (set (remove (set cs c y) (c + 1)) c z) ≡ flat cs
    joins_flat =
        let there : slice_get (set cs c y) (suc c) ≡ Some r = slice_get_read (set cs c y) (length (set cs c y)) (suc c) r refl range (h.3 ∙ ap (λ n. get_or (set cs c y) n r) next) in
        let both = at_chunk (λ x. z.items ≡ x.items ++ r.items) (set cs c y) c y (get_set cs c y (omega (arith, h.0))) (h.5 ∙ ap (λ v. v.items ++ r.items) is_y) in
        ap (λ n. flat (set (remove (set cs c y) n) c z)) next
        ∙ flat_join (set cs c y) c z range (at_chunk (λ r. IfSome (slice_get (set cs c y) c) (λ x. z.items ≡ x.items ++ r.items)) (set cs c y) (suc c) r there both)
        ∙ same_in cs c x y (omega (arith, h.0)) h.1 h.2

    pub joins_filled : AreFilled cs → AreFilled (set (remove (set cs c y) (c + 1)) c z)
    joins_filled f =
        let was = subst (λ v. 1 ≤ length v.items) (sym h.1) (f c x (omega (arith, h.0))) in
        let some : 1 ≤ length y.items = omega (arith, ap length h.2, was) in
        let all = filled_removed (set cs c y) (c + 1) (filled_in cs c y f some) in
        filled_in (remove (set cs c y) (c + 1)) c z all (omega (arith, ap length (h.5 ∙ ap (λ v. v.items ++ r.items) is_y), length-append y.items r.items, some))

  -- ---- the last entry of all is taken out

  flat_shorter : (cs : List (Vec X)) (c : ℕ) (e : X) (y : Vec X) → c + 1 ≡ length cs → IfSome (slice_get cs c) (λ x. x.items ≡ y.items ++ e ∷ []) → flat cs ≡ flat (set cs c y) ++ e ∷ []
  flat_shorter [] c e y l h = absurd (omega arith)
  flat_shorter (x ∷ []) zero e y l h = append-nil x.items ∙ h ∙ ap (λ l. l ++ e ∷ []) (sym (append-nil y.items))
  flat_shorter (x ∷ z ∷ cs) zero e y l h = absurd (omega arith)
  flat_shorter (x ∷ cs) (suc c) e y l h = ap (λ l. x.items ++ l) (flat_shorter cs c e y (omega arith) h) ∙ sym (append_assoc x.items (flat (set cs c y)) (e ∷ []))

  flat_popped : (cs : List (Vec X)) (c : ℕ) (y : Vec X) → c + 1 ≡ length cs → y.items ≡ [] → flat (set cs c y) ≡ flat (take c (set cs c y))
  flat_popped [] c y l h = absurd (omega arith)
  flat_popped (x ∷ []) zero y l h = ap (λ l. l ++ []) h
  flat_popped (x ∷ z ∷ cs) zero y l h = absurd (omega arith)
  flat_popped (x ∷ cs) (suc c) y l h = ap (λ l. x.items ++ l) (flat_popped cs c y (omega arith) h)

  pub shorter : (cs : List (Vec X)) (c : ℕ) (e : X) (x y : Vec X) → c + 1 ≡ length cs → x ≡ get_or cs c x → x.items ≡ y.items ++ e ∷ [] → flat cs ≡ flat (set cs c y) ++ e ∷ []
  shorter cs c e x y l at h = flat_shorter cs c e y l (at_chunk (λ z. z.items ≡ y.items ++ e ∷ []) cs c x (slice_get_read cs (length cs) c x refl (omega (arith, l)) at) h)

  pub popped : (cs ds : List (Vec X)) (c : ℕ) (e : X) (x y : Vec X) → c + 1 ≡ length cs → x ≡ get_or cs c x → x.items ≡ y.items ++ e ∷ [] → y.items ≡ [] → ds ≡ take c (set cs c y) → flat cs ≡ flat ds ++ e ∷ []
  popped cs ds c e x y l at h n d = shorter cs c e x y l at h ∙ ap (λ l. l ++ e ∷ []) (flat_popped cs c y l n ∙ ap flat (sym d))

  pub popped_filled : (cs ds : List (Vec X)) (c : ℕ) (y : Vec X) → AreFilled cs → ds ≡ take c (set cs c y) → AreFilled ds
  popped_filled cs ds c y f d = subst AreFilled (sym (d ∙ take-set cs c y)) (All-take (λ x. 1 ≤ length x.items) c cs f)

  -- ---- what stands at a place and behind it

  after_parts : (cs : List (Vec X)) (c p : ℕ) → IfSome (slice_get cs c) (λ x. after cs c p ≡ drop p x.items ++ flat (drop (suc c) cs))
  after_parts [] c p = tt
  after_parts (x ∷ cs) zero p = refl
  after_parts (x ∷ cs) (suc c) p = after_parts cs c p

  pub after_in : (cs : List (Vec X)) (c p : ℕ) (x : Vec X) → c < length cs → x ≡ get_or cs c x → after cs c p ≡ drop p x.items ++ flat (drop (c + 1) cs)
  after_in cs c p x l at =
      let next : suc c ≡ c + 1 = omega arith in
      subst (λ o. IfSome o (λ z. after cs c p ≡ drop p z.items ++ flat (drop (suc c) cs))) (slice_get_read cs (length cs) c x refl l at) (after_parts cs c p) ∙ ap (λ n. drop p x.items ++ flat (drop n cs)) next

  pub after_none : (cs : List (Vec X)) (c p : ℕ) → length cs ≤ c → after cs c p ≡ []
  after_none [] c p l = refl
  after_none (x ∷ cs) zero p l = absurd (omega arith)
  after_none (x ∷ cs) (suc c) p l = after_none cs c p (omega arith)

  pub has_place : (cs : List (Vec X)) (c p : ℕ) (x : Vec X) → c < length cs → x ≡ get_or cs c x → HasEntries cs c p → p ≤ length x.items
  has_place cs c p x l at h = has_more cs c p x (slice_get_read cs (length cs) c x refl l at) h
