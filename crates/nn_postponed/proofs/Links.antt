-- The links of many messages: what they say of these, and what is left of them where one comes or goes.
use Rattle.std.proofs.Common.{◌≡◌, ◌≢◌, ℕ, ◌+◌, ◌<◌, ◌≤◌, true, false, cond, List, [], ◌∷◌, ◌++◌, zero, suc, length, take, set, get_or, Some, None, Option, refl, sym, ap, subst, ◌∙◌, ◌⊎◌, inl, inr, arith, eqb-true, eq-eqb, length-append, nat_cmp}
use Rattle.std.specs.Prelude.{◌==◌}
use Rattle.std.specs.List.{list_all}
use Rattle.std.specs.BTreeMap.{is_at}
use Rattle.std.specs.Map.{set_value}
use Rattle.std.specs.Option.{IsSome}
use Rattle.std.specs.Cmp.{nat_cmp_total}
use Rattle.std.proofs.lemmas.Bool.{cases_Bool, cases_order, both_ways, ne_eqb, eqb-false, and_parts, and_from}
use Rattle.std.proofs.lemmas.List.{get_or_past, get_or_append_left, get_or_default, get_or-take, length-take}
use Rattle.std.proofs.Math.Seq.{get_or-append_seam}
use Rattle.nn_sorted.specs.Values.{value_at}
use Rattle.nn_sorted.proofs.Values.{value_set}
use Rattle.nn_types.specs.declared.report.Message.{Message}
use Rattle.nn_postponed.specs.declared.many.Ends.{Ends}
use Rattle.nn_postponed.specs.declared.stamps.TheConstants.{NO_STAMP}
use Rattle.nn_postponed.specs.Places.{present}
use Rattle.nn_postponed.specs.Stamps.{stamp_there, HaveNone}
use Rattle.nn_postponed.specs.Links.{Slots, slot, is_of, NoneBefore, NoneBehind, NoneBetween, AreAbout, IsHead, IsLast, AreEnds, HasEnds, IsNext, AreStamps, AreLinked}
use Rattle.nn_postponed.proofs.Places.{one_fewer}
use Rattle.nn_postponed.proofs.Flat.{eq_is}

-- ---- What stands at a place.

pub same_or : (a b : ℕ) → (a ≡ b) ⊎ (a ≢ b)
same_or a b = elim (cases_Bool (a == b)) [
  | inl same ↦ inl (eqb-true a b same)
  | inr apart ↦ inr (eqb-false a b apart)
]

pub some_or_none : (o : Option Message) (m : Message) → o ≡ Some m → o ≡ None → ⊥
some_or_none o m some none = (let e : Some m ≡ None = sym some ∙ none in absurd (cc))

pub one_message : (o : Option Message) (x m : Message) → o ≡ Some x → o ≡ Some m → x ≡ m
one_message o x m one other = (let e : Some x ≡ Some m = sym one ∙ other in cc)

pub in_places : (xs : Slots) (q : ℕ) (m : Message) → slot xs q ≡ Some m → q < length xs
in_places xs q m there = elim (cases_order q (length xs)) [
  | inl same ↦ absurd (some_or_none (slot xs q) m there (get_or_past xs q None (omega (arith, same))))
  | inr (inl below) ↦ below
  | inr (inr above) ↦ absurd (some_or_none (slot xs q) m there (get_or_past xs q None (omega (arith, above))))
]

pub none_of : (dn : ℕ) (o : Option Message) → o ≡ None → is_of dn o ≡ false
none_of dn o is = ap (is_of dn) is

pub own_of : (o : Option Message) (m : Message) → o ≡ Some m → is_of m.dn o ≡ true
own_of o m is = ap (is_of m.dn) is ∙ eq-eqb m.dn m.dn refl

other_of : (dn : ℕ) (o : Option Message) (m : Message) → o ≡ Some m → m.dn ≢ dn → is_of dn o ≡ false
other_of dn o m is apart = ap (is_of dn) is ∙ ne_eqb m.dn dn apart

-- the message of a DataNode at a place
pub record Stands (dn : ℕ) (o : Option Message) : Type 0 where
  pub m : Message
  pub there : o ≡ Some m
  pub own : m.dn ≡ dn

pub stands : (dn : ℕ) (o : Option Message) → is_of dn o ≡ true → Stands dn o
stands dn None is = absurd (both_ways _ refl is)
stands dn (Some m) is = record { m = m; there = refl; own = eqb-true m.dn dn is }

pub of_place : (dn : ℕ) (xs : Slots) (q : ℕ) → is_of dn (slot xs q) ≡ true → q < length xs
of_place dn xs q is = (let s = stands dn (slot xs q) is in in_places xs q s.m s.there)

-- ---- Where a DataNode's messages stand at the same places, its ends and links are the same.

module _ (dn : ℕ) (xs ys : Slots) where
  pub ends_same : (v : Option Ends) → ((q : ℕ) → is_of dn (slot ys q) ≡ is_of dn (slot xs q)) → HasEnds dn xs v → HasEnds dn ys v
  ends_same None same has = λ q. same q ∙ has q
  ends_same (Some e) same has = record {
    first = same e.first ∙ has.first;
    before = λ q lt. same q ∙ has.before q lt;
    last = same e.last ∙ has.last;
    behind = λ q lt. same q ∙ has.behind q lt;
  }

  pub next_same : (p n : ℕ) → ((q : ℕ) → p < q → is_of dn (slot ys q) ≡ is_of dn (slot xs q)) → IsNext dn xs p n → IsNext dn ys p n
  next_same p n same has = record {
    none = λ nil q lt. same q lt ∙ has.none nil q lt;
    later = has.later;
    there = λ some. same n (has.later some) ∙ has.there some;
    between = λ q lt below. same q lt ∙ has.between q lt below;
  }

-- the value at a key, where one was put or taken out
pub put_here : (es fs : List (ℕ × Ends)) (dn q : ℕ) (v : Option Ends) → ((k : ℕ) → value_at nat_cmp fs k ≡ cond (is_at (nat_cmp dn) k) v (value_at nat_cmp es k)) → q ≡ dn → value_at nat_cmp fs q ≡ v
put_here es fs dn q v updates same = updates q ∙ ap (λ t. cond t v (value_at nat_cmp es q)) (eq_is dn q ∙ eq-eqb dn q (sym same))

pub kept_there : (es fs : List (ℕ × Ends)) (dn q : ℕ) (v : Option Ends) → ((k : ℕ) → value_at nat_cmp fs k ≡ cond (is_at (nat_cmp dn) k) v (value_at nat_cmp es k)) → q ≢ dn → value_at nat_cmp fs q ≡ value_at nat_cmp es q
kept_there es fs dn q v updates apart = updates q ∙ ap (λ t. cond t v (value_at nat_cmp es q)) (eq_is dn q ∙ ne_eqb dn q (λ e. apart (sym e)))

-- a value that was there is another one now
pub put_over : (es : List (ℕ × Ends)) (dn : ℕ) (v w : Ends) → Some v ≡ value_at nat_cmp es dn → (k : ℕ) → value_at nat_cmp (set_value (is_at (nat_cmp dn)) es w) k ≡ cond (is_at (nat_cmp dn) k) (Some w) (value_at nat_cmp es k)
put_over es dn v w found k = value_set nat_cmp_total (nat_cmp dn) (nat_cmp_total.congr dn) es k w (subst IsSome found refl)

-- ---- A message goes.

module _ (b : ℕ) (xs ys : Slots) (next new : List ℕ) (es fs : List (ℕ × Ends)) (stamps left : List ℕ) (p : ℕ) (m : Message)
    (old : AreLinked b xs next es stamps) (there : slot xs p ≡ Some m) (gone : slot ys p ≡ None) (kept : (q : ℕ) → q ≢ p → slot ys q ≡ slot xs q)
    (many : length new ≡ length ys) (few : length ys ≤ length xs) where
  was : (q : ℕ) (x : Message) → slot ys q ≡ Some x → (q ≢ p) × (slot xs q ≡ Some x)
  was q x here =
      let apart : q ≢ p = λ e. some_or_none (slot ys q) x here (ap (slot ys) e ∙ gone) in
      (apart, sym (kept q apart) ∙ here)

  -- none of a DataNode's messages comes
  less : (dn q : ℕ) → is_of dn (slot xs q) ≡ false → is_of dn (slot ys q) ≡ false
  less dn q none = elim (same_or q p) [
    | inl same ↦ none_of dn (slot ys q) (ap (slot ys) same ∙ gone)
    | inr apart ↦ ap (is_of dn) (kept q apart) ∙ none
  ]

  -- of the other DataNodes all stand where they stood
  others : (dn q : ℕ) → m.dn ≢ dn → is_of dn (slot ys q) ≡ is_of dn (slot xs q)
  others dn q other = elim (same_or q p) [
    | inl same ↦ none_of dn (slot ys q) (ap (slot ys) same ∙ gone) ∙ sym (other_of dn (slot xs q) m (ap (slot xs) same ∙ there) other)
    | inr apart ↦ ap (is_of dn) (kept q apart)
  ]

  about_left : (q : ℕ) (x : Message) → slot ys q ≡ Some x → x.block ≡ b
  about_left q x here = old.about q x (was q x here).1

  -- a head of the other DataNodes stays one, and none becomes one
  head_kept : (q : ℕ) (x : Message) → q ≢ p → IsHead xs q x → IsHead ys q x
  head_kept q x apart h = record { there = kept q apart ∙ h.there; first = λ r lt. less x.dn r (h.first r lt) }

  head_was : (q : ℕ) (x : Message) → m.dn ≢ x.dn → IsHead ys q x → IsHead xs q x
  head_was q x other h = record { there = (was q x h.there).1; first = λ r lt. sym (others x.dn r other) ∙ h.first r lt }

  -- it was the only one of its DataNode
  pub only_gone : NoneBefore m.dn xs p → NoneBehind m.dn xs p → ((q : ℕ) (x : Message) → slot ys q ≡ Some x → get_or new q 0 ≡ get_or next q 0)
      → ((k : ℕ) → value_at nat_cmp fs k ≡ cond (is_at (nat_cmp m.dn) k) None (value_at nat_cmp es k))
      → stamp_there left p ≡ NO_STAMP → ((q : ℕ) → q ≢ p → stamp_there left q ≡ stamp_there stamps q) → length left ≡ length stamps → AreLinked b ys new fs left
  only_gone before behind links updates cleared rest places = record {
    about = about_left;
    has_ends = λ dn. elim (same_or dn m.dn) [
      | inl own ↦ subst (HasEnds dn ys) (sym (put_here es fs m.dn dn None updates own)) (λ q. ap (λ k. is_of k (slot ys q)) own ∙ nowhere q)
      | inr other ↦ subst (HasEnds dn ys) (sym (kept_there es fs m.dn dn None updates other))
          (ends_same dn xs ys (value_at nat_cmp es dn) (λ q. others dn q (λ e. other (sym e))) (old.has_ends dn))
    ];
    has_next = λ q x here. subst (IsNext x.dn ys q) (sym (links q x here))
        (next_same x.dn xs ys q (get_or next q 0) (λ r lt. others x.dn r (apart q x here)) (old.has_next q x (was q x here).1));
    has_stamps = record {
      heads = λ q x h. rest q (was q x h.there).0 ∙ old.has_stamps.heads q x (head_was q x (apart q x h.there) h);
      low = λ q x h. old.has_stamps.low q x (head_was q x (apart q x h.there) h);
      only = λ q low. elim (same_or q p) [
        | inl same ↦ absurd (omega (arith, low, ap (stamp_there left) same, cleared))
        | inr other ↦ let r = old.has_stamps.only q (omega (arith, low, rest q other)) in (r.0, head_kept q r.0 other r.1)
      ];
    };
    as_many = many;
    room = omega (arith, few, places, old.room);
  }
    where
      nowhere : (q : ℕ) → is_of m.dn (slot ys q) ≡ false
      nowhere q = elim (cases_order q p) [
        | inl same ↦ none_of m.dn (slot ys q) (ap (slot ys) same ∙ gone)
        | inr (inl below) ↦ less m.dn q (before q below)
        | inr (inr above) ↦ less m.dn q (behind q above)
      ]

      apart : (q : ℕ) (x : Message) → slot ys q ≡ Some x → m.dn ≢ x.dn
      apart q x here e = both_ways _ (nowhere q) (ap (λ k. is_of k (slot ys q)) e ∙ own_of (slot ys q) x here)

  -- it was the first one of its DataNode, and the next one is the first one now
  pub first_gone : NoneBefore m.dn xs p → (n : ℕ) (y : Message) (e f : Ends) → n ≡ get_or next p 0 → 0 < n → slot xs n ≡ Some y → y.stamp < NO_STAMP
      → ((q : ℕ) (x : Message) → slot ys q ≡ Some x → get_or new q 0 ≡ get_or next q 0)
      → value_at nat_cmp es m.dn ≡ Some e → f.first ≡ n → f.last ≡ e.last
      → ((k : ℕ) → value_at nat_cmp fs k ≡ cond (is_at (nat_cmp m.dn) k) (Some f) (value_at nat_cmp es k))
      → stamp_there left p ≡ NO_STAMP → stamp_there left n ≡ y.stamp → ((q : ℕ) → q ≢ p → q ≢ n → stamp_there left q ≡ stamp_there stamps q) → length left ≡ length stamps → AreLinked b ys new fs left
  first_gone before n y e f is some at_n low links found first last updates cleared put rest places = record {
    about = about_left;
    has_ends = λ dn. elim (same_or dn m.dn) [
      | inl own ↦ subst (λ k. HasEnds k ys (value_at nat_cmp fs k)) (sym own) (subst (HasEnds m.dn ys) (sym (put_here es fs m.dn m.dn (Some f) updates refl)) ends)
      | inr other ↦ subst (HasEnds dn ys) (sym (kept_there es fs m.dn dn (Some f) updates other))
          (ends_same dn xs ys (value_at nat_cmp es dn) (λ q. others dn q (λ e. other (sym e))) (old.has_ends dn))
    ];
    has_next = λ q x here. subst (IsNext x.dn ys q) (sym (links q x here))
        (next_same x.dn xs ys q (get_or next q 0) (λ r lt. same_behind q x here r lt) (old.has_next q x (was q x here).1));
    has_stamps = record {
      heads = λ q x h. elim (same_or q n) [
        | inl same ↦ ap (stamp_there left) same ∙ put ∙ ap (λ (z : Message). z.stamp) (one_message (slot xs n) y x at_n (ap (slot xs) (sym same) ∙ (was q x h.there).1))
        | inr other ↦ rest q (was q x h.there).0 other ∙ old.has_stamps.heads q x (head_was q x (not_own q x h other) h)
      ];
      low = λ q x h. elim (same_or q n) [
        | inl same ↦ subst (λ (z : Message). z.stamp < NO_STAMP) (one_message (slot xs n) y x at_n (ap (slot xs) (sym same) ∙ (was q x h.there).1)) low
        | inr other ↦ old.has_stamps.low q x (head_was q x (not_own q x h other) h)
      ];
      only = λ q low. elim (same_or q p) [
        | inl same ↦ absurd (omega (arith, low, ap (stamp_there left) same, cleared))
        | inr other ↦ elim (same_or q n) [
          | inl same ↦ (
            y,
            record {
              there = ap (slot ys) same ∙ kept n apart ∙ at_n;
              first = λ r lt. ap (λ k. is_of k (slot ys r)) y_own ∙ ends.before r (omega (arith, lt, same, first));
            },
          )
          | inr away ↦ let r = old.has_stamps.only q (omega (arith, low, rest q other away)) in (r.0, head_kept q r.0 other r.1)
        ]
      ];
    };
    as_many = many;
    room = omega (arith, few, places, old.room);
  }
    where
      link : IsNext m.dn xs p n
      link = subst (IsNext m.dn xs p) (sym is) (old.has_next p m there)

      later : p < n
      later = link.later some

      apart : n ≢ p
      apart e = omega (arith, e, later)

      y_own : y.dn ≡ m.dn
      y_own = eqb-true y.dn m.dn (sym (ap (is_of m.dn) at_n) ∙ link.there some)

      had : AreEnds m.dn xs e
      had = subst (HasEnds m.dn xs) found (old.has_ends m.dn)

      not_p : e.last ≢ p
      not_p same = both_ways _ (had.behind n (omega (arith, same, later))) (link.there some)

      ends : AreEnds m.dn ys f
      ends = record {
        first = ap (λ k. is_of m.dn (slot ys k)) first ∙ ap (is_of m.dn) (kept n apart) ∙ link.there some;
        before = λ q lt. elim (cases_order q p) [
          | inl same ↦ none_of m.dn (slot ys q) (ap (slot ys) same ∙ gone)
          | inr (inl below) ↦ less m.dn q (before q below)
          | inr (inr above) ↦ less m.dn q (link.between q above (omega (arith, lt, first)))
        ];
        last = ap (λ k. is_of m.dn (slot ys k)) last ∙ ap (is_of m.dn) (kept e.last not_p) ∙ had.last;
        behind = λ q lt. less m.dn q (had.behind q (omega (arith, lt, last)));
      }

      same_behind : (q : ℕ) (x : Message) → slot ys q ≡ Some x → (r : ℕ) → q < r → is_of x.dn (slot ys r) ≡ is_of x.dn (slot xs r)
      same_behind q x here r lt = elim (same_or m.dn x.dn) [
        | inl own ↦ ap (is_of x.dn) (kept r (λ e. both_ways _ (before q (omega (arith, lt, e))) (ap (λ k. is_of k (slot xs q)) own ∙ own_of (slot xs q) x (was q x here).1)))
        | inr other ↦ others x.dn r other
      ]

      not_own : (q : ℕ) (x : Message) → IsHead ys q x → q ≢ n → m.dn ≢ x.dn
      not_own q x h other own = elim (cases_order q n) [
        | inl same ↦ other same
        | inr (inl below) ↦ both_ways _ (ends.before q (omega (arith, below, first))) (ap (λ k. is_of k (slot ys q)) own ∙ own_of (slot ys q) x h.there)
        | inr (inr above) ↦ both_ways _ (h.first n above) (ap (λ k. is_of k (slot ys n)) (sym own) ∙ ap (is_of m.dn) (kept n apart) ∙ link.there some)
      ]

  -- it was the last one of all, and another one of its DataNode is the last one of that now
  pub last_gone : ((q : ℕ) → p < q → slot xs q ≡ None) → (r : ℕ) (e f : Ends) → r < p → is_of m.dn (slot xs r) ≡ true → NoneBetween m.dn xs r p
      → ((q : ℕ) (x : Message) → slot ys q ≡ Some x → q ≢ r → get_or new q 0 ≡ get_or next q 0) → get_or new r 0 ≡ 0
      → value_at nat_cmp es m.dn ≡ Some e → e.first ≢ p → f.first ≡ e.first → f.last ≡ r
      → ((k : ℕ) → value_at nat_cmp fs k ≡ cond (is_at (nat_cmp m.dn) k) (Some f) (value_at nat_cmp es k)) → AreLinked b ys new fs stamps
  last_gone behind r e f below r_own between links cleared found not_first first last updates = record {
    about = about_left;
    has_ends = λ dn. elim (same_or dn m.dn) [
      | inl own ↦ subst (λ k. HasEnds k ys (value_at nat_cmp fs k)) (sym own) (subst (HasEnds m.dn ys) (sym (put_here es fs m.dn m.dn (Some f) updates refl)) ends)
      | inr other ↦ subst (HasEnds dn ys) (sym (kept_there es fs m.dn dn (Some f) updates other))
          (ends_same dn xs ys (value_at nat_cmp es dn) (λ q. others dn q (λ h. other (sym h))) (old.has_ends dn))
    ];
    has_next = λ q x here. elim (same_or q r) [
      | inl same ↦ subst (IsNext x.dn ys q) (sym (ap (λ k. get_or new k 0) same ∙ cleared)) (record {
        none = λ nil k lt. elim (same_or m.dn x.dn) [
          | inl own ↦ ap (λ d. is_of d (slot ys k)) (sym own) ∙ ends.behind k (omega (arith, lt, same, last))
          | inr other ↦ absurd (other (sym (one_own q x here same)))
        ];
        later = λ some. absurd (omega (arith, some));
        there = λ some. absurd (omega (arith, some));
        between = λ k lt end. absurd (omega (arith, lt, end));
      })
      | inr apart ↦ subst (IsNext x.dn ys q) (sym (links q x here apart)) (elim (same_or m.dn x.dn) [
        | inl own ↦ kept_link q x here apart own
        | inr other ↦ next_same x.dn xs ys q (get_or next q 0) (λ k lt. others x.dn k other) (old.has_next q x (was q x here).1)
      ])
    ];
    has_stamps = record {
      heads = λ q x h. old.has_stamps.heads q x (head_before q x h);
      low = λ q x h. old.has_stamps.low q x (head_before q x h);
      only = λ q low. let was_head = old.has_stamps.only q low in (
        was_head.0,
        head_kept q was_head.0 (λ same. both_ways _
            (ap (λ (z : Message). is_of z.dn (slot xs r)) (one_message (slot xs p) m was_head.0 there (ap (slot xs) (sym same) ∙ was_head.1.there)) ∙ was_head.1.first r (omega (arith, below, same))) r_own) was_head.1,
      );
    };
    as_many = many;
    room = omega (arith, few, old.room);
  }
    where
      had : AreEnds m.dn xs e
      had = subst (HasEnds m.dn xs) found (old.has_ends m.dn)

      not_p : r ≢ p
      not_p same = omega (arith, same, below)

      ends : AreEnds m.dn ys f
      ends = record {
        first = ap (λ k. is_of m.dn (slot ys k)) first ∙ ap (is_of m.dn) (kept e.first not_first) ∙ had.first;
        before = λ q lt. less m.dn q (had.before q (omega (arith, lt, first)));
        last = ap (λ k. is_of m.dn (slot ys k)) last ∙ ap (is_of m.dn) (kept r not_p) ∙ r_own;
        behind = λ q lt. elim (cases_order q p) [
          | inl same ↦ none_of m.dn (slot ys q) (ap (slot ys) same ∙ gone)
          | inr (inl low) ↦ less m.dn q (between q (omega (arith, lt, last)) low)
          | inr (inr high) ↦ less m.dn q (none_of m.dn (slot xs q) (behind q high))
        ];
      }

      in_front : (q : ℕ) (x : Message) → slot ys q ≡ Some x → q < p
      in_front q x here = elim (cases_order q p) [
        | inl same ↦ absurd ((was q x here).0 same)
        | inr (inl low) ↦ low
        | inr (inr high) ↦ absurd (some_or_none (slot xs q) x (was q x here).1 (behind q high))
      ]

      one_own : (q : ℕ) (x : Message) → slot ys q ≡ Some x → q ≡ r → x.dn ≡ m.dn
      one_own q x here same = eqb-true x.dn m.dn (sym (ap (is_of m.dn) (was q x here).1) ∙ ap (λ k. is_of m.dn (slot xs k)) same ∙ r_own)

      kept_link : (q : ℕ) (x : Message) → slot ys q ≡ Some x → q ≢ r → m.dn ≡ x.dn → IsNext x.dn ys q (get_or next q 0)
      kept_link q x here apart own =
          let link : IsNext x.dn xs q (get_or next q 0) = old.has_next q x (was q x here).1 in
          let r_of : is_of x.dn (slot xs r) ≡ true = ap (λ k. is_of k (slot xs r)) (sym own) ∙ r_own in
          let q_of : is_of m.dn (slot xs q) ≡ true = ap (λ k. is_of k (slot xs q)) own ∙ own_of (slot xs q) x (was q x here).1 in
          let q_low : q < r = elim (cases_order q r) [
            | inl same ↦ absurd (apart same)
            | inr (inl low) ↦ low
            | inr (inr high) ↦ absurd (both_ways _ (between q high (in_front q x here)) q_of)
          ] in
          let some : 0 < get_or next q 0 = elim (same_or (get_or next q 0) 0) [
            | inl nil ↦ absurd (both_ways _ (link.none nil r q_low) r_of)
            | inr other ↦ omega (arith, other)
          ] in
          let up_to : get_or next q 0 ≤ r = elim (cases_order (get_or next q 0) r) [
            | inl same ↦ omega (arith, same)
            | inr (inl low) ↦ omega (arith, low)
            | inr (inr high) ↦ absurd (both_ways _ (link.between r q_low high) r_of)
          ] in record {
            none = λ nil k lt. absurd (omega (arith, nil, some));
            later = link.later;
            there = λ h. ap (is_of x.dn) (kept (get_or next q 0) (λ e. omega (arith, e, up_to, below))) ∙ link.there h;
            between = λ k lt end. less x.dn k (link.between k lt end);
          }

      head_before : (q : ℕ) (x : Message) → IsHead ys q x → IsHead xs q x
      head_before q x h = record {
        there = (was q x h.there).1;
        first = λ k lt. ap (is_of x.dn) (sym (kept k (λ e. (let low = in_front q x h.there in omega (arith, lt, e, low))))) ∙ h.first k lt;
      }

-- ---- A message comes behind the others.

module _ (b : ℕ) (xs : Slots) (next new : List ℕ) (es fs : List (ℕ × Ends)) (stamps more : List ℕ) (m : Message)
    (old : AreLinked b xs next es stamps) (about : m.block ≡ b) (many : length new ≡ length next + 1) (room : length xs < length more) where
  abbrev pub ys : Slots
  ys = xs ++ Some m ∷ []

  at_end : slot ys (length xs) ≡ Some m
  at_end = get_or-append_seam xs (Some m) [] None

  long : length ys ≡ length xs + 1
  long = length-append xs (Some m ∷ [])

  stays : (q : ℕ) → q < length xs → slot ys q ≡ slot xs q
  stays q lt = get_or_append_left xs (Some m ∷ []) None q lt

  is_past : (q : ℕ) → length xs < q → slot ys q ≡ None
  is_past q lt = get_or_past ys q None (omega (arith, lt, long))

  -- a message is the new one, or stood there
  came : (q : ℕ) (x : Message) → slot ys q ≡ Some x → ((q ≡ length xs) × (x ≡ m)) ⊎ ((q < length xs) × (slot xs q ≡ Some x))
  came q x here = elim (cases_order q (length xs)) [
    | inl same ↦ inl (same, one_message (slot ys q) x m here (ap (slot ys) same ∙ at_end))
    | inr (inl below) ↦ inr (below, sym (stays q below) ∙ here)
    | inr (inr above) ↦ absurd (some_or_none (slot ys q) x here (is_past q above))
  ]

  same_of : (dn q : ℕ) → m.dn ≢ dn → is_of dn (slot ys q) ≡ is_of dn (slot xs q)
  same_of dn q other = elim (cases_order q (length xs)) [
    | inl same ↦ other_of dn (slot ys q) m (ap (slot ys) same ∙ at_end) other ∙ sym (none_of dn (slot xs q) (get_or_past xs q None (omega (arith, same))))
    | inr (inl below) ↦ ap (is_of dn) (stays q below)
    | inr (inr above) ↦ none_of dn (slot ys q) (is_past q above) ∙ sym (none_of dn (slot xs q) (get_or_past xs q None (omega (arith, above))))
  ]

  all_about : (q : ℕ) (x : Message) → slot ys q ≡ Some x → x.block ≡ b
  all_about q x here = elim (came q x here) [
    | inl new_one ↦ ap (λ (z : Message). z.block) new_one.1 ∙ about
    | inr stood ↦ old.about q x stood.1
  ]

  head_stays : (q : ℕ) (x : Message) → q < length xs → IsHead ys q x → IsHead xs q x
  head_stays q x lt h = record { there = sym (stays q lt) ∙ h.there; first = λ r low. ap (is_of x.dn) (sym (stays r (omega (arith, low, lt)))) ∙ h.first r low }

  head_still : (q : ℕ) (x : Message) → IsHead xs q x → IsHead ys q x
  head_still q x h =
      let lt = in_places xs q x h.there in
      record { there = stays q lt ∙ h.there; first = λ r low. ap (is_of x.dn) (stays r (omega (arith, low, lt))) ∙ h.first r low }

  last_link : (dn : ℕ) → IsNext dn ys (length xs) 0
  last_link dn = record {
    none = λ nil q lt. none_of dn (slot ys q) (is_past q lt);
    later = λ some. absurd (omega (arith, some));
    there = λ some. absurd (omega (arith, some));
    between = λ q lt end. absurd (omega (arith, lt, end));
  }

  as_many_now : length new ≡ length ys
  as_many_now = omega (arith, many, old.as_many, long)

  -- the first one of its DataNode
  pub first_came : value_at nat_cmp es m.dn ≡ None → (f : Ends) → f.first ≡ length xs → f.last ≡ length xs
      → ((k : ℕ) → value_at nat_cmp fs k ≡ cond (is_at (nat_cmp m.dn) k) (Some f) (value_at nat_cmp es k))
      → ((q : ℕ) → q < length xs → get_or new q 0 ≡ get_or next q 0) → get_or new (length xs) 0 ≡ 0
      → stamp_there more (length xs) ≡ m.stamp → m.stamp < NO_STAMP → ((q : ℕ) → q ≢ length xs → stamp_there more q ≡ stamp_there stamps q) → AreLinked b ys new fs more
  first_came absent f first last updates links end put low rest = record {
    about = all_about;
    has_ends = λ dn. elim (same_or dn m.dn) [
      | inl own ↦ subst (λ k. HasEnds k ys (value_at nat_cmp fs k)) (sym own) (subst (HasEnds m.dn ys) (sym (put_here es fs m.dn m.dn (Some f) updates refl)) (record {
        first = ap (λ k. is_of m.dn (slot ys k)) first ∙ own_of (slot ys (length xs)) m at_end;
        before = λ q lt. (let below : q < length xs = omega (arith, lt, first) in ap (is_of m.dn) (stays q below) ∙ nowhere q);
        last = ap (λ k. is_of m.dn (slot ys k)) last ∙ own_of (slot ys (length xs)) m at_end;
        behind = λ q lt. none_of m.dn (slot ys q) (is_past q (omega (arith, lt, last)));
      }))
      | inr other ↦ subst (HasEnds dn ys) (sym (kept_there es fs m.dn dn (Some f) updates other))
          (ends_same dn xs ys (value_at nat_cmp es dn) (λ q. same_of dn q (λ e. other (sym e))) (old.has_ends dn))
    ];
    has_next = λ q x here. elim (came q x here) [
      | inl new_one ↦ subst (λ k. IsNext x.dn ys k (get_or new k 0)) (sym new_one.0) (subst (IsNext x.dn ys (length xs)) (sym end) (last_link x.dn))
      | inr stood ↦ subst (IsNext x.dn ys q) (sym (links q stood.0)) (next_same x.dn xs ys q (get_or next q 0) (λ r lt. same_of x.dn r (apart q x stood.1)) (old.has_next q x stood.1))
    ];
    has_stamps = record {
      heads = λ q x h. elim (came q x h.there) [
        | inl new_one ↦ ap (stamp_there more) new_one.0 ∙ put ∙ ap (λ (z : Message). z.stamp) (sym new_one.1)
        | inr stood ↦ rest q (λ e. (let lt = stood.0 in omega (arith, lt, e))) ∙ old.has_stamps.heads q x (head_stays q x stood.0 h)
      ];
      low = λ q x h. elim (came q x h.there) [
        | inl new_one ↦ subst (λ (z : Message). z.stamp < NO_STAMP) (sym new_one.1) low
        | inr stood ↦ old.has_stamps.low q x (head_stays q x stood.0 h)
      ];
      only = λ q small. elim (same_or q (length xs)) [
        | inl same ↦ (m, record { there = ap (slot ys) same ∙ at_end; first = λ r lt. ap (is_of m.dn) (stays r (omega (arith, lt, same))) ∙ nowhere r })
        | inr other ↦ let h = old.has_stamps.only q (omega (arith, small, rest q other)) in (h.0, head_still q h.0 h.1)
      ];
    };
    as_many = as_many_now;
    room = omega (arith, room, long);
  }
    where
      nowhere : (q : ℕ) → is_of m.dn (slot xs q) ≡ false
      nowhere = subst (HasEnds m.dn xs) absent (old.has_ends m.dn)

      apart : (q : ℕ) (x : Message) → slot xs q ≡ Some x → m.dn ≢ x.dn
      apart q x here e = both_ways _ (nowhere q) (ap (λ k. is_of k (slot xs q)) e ∙ own_of (slot xs q) x here)

  -- one more of a DataNode
  pub next_came : (e f : Ends) → value_at nat_cmp es m.dn ≡ Some e → f.first ≡ e.first → f.last ≡ length xs
      → ((k : ℕ) → value_at nat_cmp fs k ≡ cond (is_at (nat_cmp m.dn) k) (Some f) (value_at nat_cmp es k))
      → ((q : ℕ) → q < length xs → q ≢ e.last → get_or new q 0 ≡ get_or next q 0) → get_or new e.last 0 ≡ length xs → get_or new (length xs) 0 ≡ 0
      → more ≡ stamps → AreLinked b ys new fs more
  next_came e f found first last updates links linked end same = record {
    about = all_about;
    has_ends = λ dn. elim (same_or dn m.dn) [
      | inl own ↦ subst (λ k. HasEnds k ys (value_at nat_cmp fs k)) (sym own) (subst (HasEnds m.dn ys) (sym (put_here es fs m.dn m.dn (Some f) updates refl)) (record {
        first = ap (λ k. is_of m.dn (slot ys k)) first ∙ ap (is_of m.dn) (stays e.first first_in) ∙ had.first;
        before = λ q lt. (let low : q < e.first = omega (arith, lt, first) in ap (is_of m.dn) (stays q (omega (arith, low, first_in))) ∙ had.before q low);
        last = ap (λ k. is_of m.dn (slot ys k)) last ∙ own_of (slot ys (length xs)) m at_end;
        behind = λ q lt. none_of m.dn (slot ys q) (is_past q (omega (arith, lt, last)));
      }))
      | inr other ↦ subst (HasEnds dn ys) (sym (kept_there es fs m.dn dn (Some f) updates other))
          (ends_same dn xs ys (value_at nat_cmp es dn) (λ q. same_of dn q (λ h. other (sym h))) (old.has_ends dn))
    ];
    has_next = λ q x here. elim (came q x here) [
      | inl new_one ↦ subst (λ k. IsNext x.dn ys k (get_or new k 0)) (sym new_one.0) (subst (IsNext x.dn ys (length xs)) (sym end) (last_link x.dn))
      | inr stood ↦ elim (same_or q e.last) [
        | inl at_last ↦ subst (IsNext x.dn ys q) (sym (ap (λ k. get_or new k 0) at_last ∙ linked)) (to_end q x stood.1 at_last)
        | inr apart ↦ subst (IsNext x.dn ys q) (sym (links q stood.0 apart)) (elim (same_or m.dn x.dn) [
          | inl own ↦ kept_link q x stood.1 apart own
          | inr other ↦ next_same x.dn xs ys q (get_or next q 0) (λ r lt. same_of x.dn r other) (old.has_next q x stood.1)
        ])
      ]
    ];
    has_stamps = subst (AreStamps ys) (sym same) (record {
      heads = λ q x h. old.has_stamps.heads q x (was_head q x h);
      low = λ q x h. old.has_stamps.low q x (was_head q x h);
      only = λ q small. (let h = old.has_stamps.only q small in (h.0, head_still q h.0 h.1));
    });
    as_many = as_many_now;
    room = omega (arith, room, long);
  }
    where
      had : AreEnds m.dn xs e
      had = subst (HasEnds m.dn xs) found (old.has_ends m.dn)

      first_in : e.first < length xs
      first_in = of_place m.dn xs e.first had.first

      last_in : e.last < length xs
      last_in = of_place m.dn xs e.last had.last

      to_end : (q : ℕ) (x : Message) → slot xs q ≡ Some x → q ≡ e.last → IsNext x.dn ys q (length xs)
      to_end q x here at_last =
          let own : x.dn ≡ m.dn = eqb-true x.dn m.dn (sym (ap (is_of m.dn) here) ∙ ap (λ k. is_of m.dn (slot xs k)) at_last ∙ had.last) in record {
            none = λ nil. absurd (omega (arith, nil, last_in));
            later = λ some. omega (arith, at_last, last_in);
            there = λ some. ap (λ k. is_of k (slot ys (length xs))) own ∙ own_of (slot ys (length xs)) m at_end;
            between = λ r lt low. ap (λ k. is_of k (slot ys r)) own ∙ ap (is_of m.dn) (stays r low) ∙ had.behind r (omega (arith, lt, at_last));
          }

      kept_link : (q : ℕ) (x : Message) → slot xs q ≡ Some x → q ≢ e.last → m.dn ≡ x.dn → IsNext x.dn ys q (get_or next q 0)
      kept_link q x here apart own =
          let link : IsNext x.dn xs q (get_or next q 0) = old.has_next q x here in
          let last_of : is_of x.dn (slot xs e.last) ≡ true = ap (λ k. is_of k (slot xs e.last)) (sym own) ∙ had.last in
          let q_of : is_of m.dn (slot xs q) ≡ true = ap (λ k. is_of k (slot xs q)) own ∙ own_of (slot xs q) x here in
          let q_low : q < e.last = elim (cases_order q e.last) [
            | inl at_last ↦ absurd (apart at_last)
            | inr (inl low) ↦ low
            | inr (inr high) ↦ absurd (both_ways _ (had.behind q high) q_of)
          ] in
          let some : 0 < get_or next q 0 = elim (same_or (get_or next q 0) 0) [
            | inl nil ↦ absurd (both_ways _ (link.none nil e.last q_low) last_of)
            | inr other ↦ omega (arith, other)
          ] in
          let n_in : get_or next q 0 < length xs = of_place x.dn xs (get_or next q 0) (link.there some) in record {
            none = λ nil k lt. absurd (omega (arith, nil, some));
            later = link.later;
            there = λ h. ap (is_of x.dn) (stays (get_or next q 0) n_in) ∙ link.there h;
            between = λ k lt low. ap (is_of x.dn) (stays k (omega (arith, low, n_in))) ∙ link.between k lt low;
          }

      was_head : (q : ℕ) (x : Message) → IsHead ys q x → IsHead xs q x
      was_head q x h = elim (came q x h.there) [
        | inl new_one ↦ absurd (both_ways _ (ap (λ (z : Message). is_of z.dn (slot ys e.first)) (sym new_one.1) ∙ h.first e.first (omega (arith, first_in, new_one.0))) (ap (is_of m.dn) (stays e.first first_in) ∙ had.first))
        | inr stood ↦ head_stays q x stood.0 h
      ]

-- ---- No messages.

pub none_linked : (b : ℕ) (stamps : List ℕ) → HaveNone stamps → AreLinked b [] [] [] stamps
none_linked b stamps none = record {
  about = λ q m here. absurd (some_or_none (slot [] q) m here (get_or_past [] q None (omega arith)));
  has_ends = λ dn q. none_of dn (slot [] q) (get_or_past [] q None (omega arith));
  has_next = λ q m here. absurd (some_or_none (slot [] q) m here (get_or_past [] q None (omega arith)));
  has_stamps = record {
    heads = λ q m h. absurd (some_or_none (slot [] q) m h.there (get_or_past [] q None (omega arith)));
    low = λ q m h. absurd (some_or_none (slot [] q) m h.there (get_or_past [] q None (omega arith)));
    only = λ q low. absurd (omega (arith, low, none q));
  };
  as_many = refl;
  room = omega arith;
}

-- ---- The block, and more places for stamps.

-- the block of a message that stands there
pub about_at : (c : ℕ) (ys : Slots) → AreAbout c (present ys) → (q : ℕ) (m : Message) → slot ys q ≡ Some m → m.block ≡ c
about_at c [] all q m here = absurd (some_or_none (slot [] q) m here (get_or_past [] q None (omega arith)))
about_at c (None ∷ ys) all zero m here = absurd (cc)
about_at c (Some x ∷ ys) all zero m here = (let e : x ≡ m = cc in ap (λ (z : Message). z.block) (sym e) ∙ eqb-true x.block c (and_parts (x.block == c) (list_all (λ z. z.block == c) (present ys)) all).0)
about_at c (None ∷ ys) all (suc q) m here = about_at c ys all q m here
about_at c (Some x ∷ ys) all (suc q) m here = about_at c ys (and_parts (x.block == c) (list_all (λ z. z.block == c) (present ys)) all).1 q m here

pub relabelled : (b c : ℕ) (xs : Slots) (next : List ℕ) (es : List (ℕ × Ends)) (stamps : List ℕ) → AreAbout c (present xs) → AreLinked b xs next es stamps → AreLinked c xs next es stamps
relabelled b c xs next es stamps about old = record {
  about = about_at c xs about;
  has_ends = old.has_ends;
  has_next = old.has_next;
  has_stamps = old.has_stamps;
  as_many = old.as_many;
  room = old.room;
}

pub all_about_it : (b : ℕ) (xs : Slots) → ((q : ℕ) (m : Message) → slot xs q ≡ Some m → m.block ≡ b) → AreAbout b (present xs)
all_about_it b [] about = refl
all_about_it b (None ∷ xs) about = all_about_it b xs (λ q m. about (suc q) m)
all_about_it b (Some x ∷ xs) about = and_from (x.block == b) (list_all (λ z. z.block == b) (present xs)) (eq-eqb x.block b (about zero x refl)) (all_about_it b xs (λ q m. about (suc q) m))

-- the messages before a place, and behind others
pub taken_about : (b : ℕ) (xs : Slots) (i : ℕ) → AreAbout b (present xs) → AreAbout b (present (take i xs))
taken_about b xs i all = all_about_it b (take i xs) (λ q m here. (let lt : q < i = (let l = length-take i xs in let t = in_places (take i xs) q m here in omega (arith, l, t)) in
    about_at b xs all q m (sym (get_or-take i xs q None lt) ∙ here)))

pub joined_about : (b : ℕ) (ms ns : List Message) → AreAbout b ms → AreAbout b ns → AreAbout b (ms ++ ns)
joined_about b [] ns one other = other
joined_about b (m ∷ ms) ns one other = (let parts = and_parts (m.block == b) (list_all (λ z. z.block == b) ms) one in
    and_from (m.block == b) (list_all (λ z. z.block == b) (ms ++ ns)) parts.0 (joined_about b ms ns parts.1 other))

pub restamped : (b : ℕ) (xs : Slots) (next : List ℕ) (es : List (ℕ × Ends)) (stamps more : List ℕ) → ((q : ℕ) → stamp_there more q ≡ stamp_there stamps q) → length stamps ≤ length more
    → AreLinked b xs next es stamps → AreLinked b xs next es more
restamped b xs next es stamps more same long old = record {
  about = old.about;
  has_ends = old.has_ends;
  has_next = old.has_next;
  has_stamps = record {
    heads = λ q m h. same q ∙ old.has_stamps.heads q m h;
    low = old.has_stamps.low;
    only = λ q low. old.has_stamps.only q (omega (arith, low, same q));
  };
  as_many = old.as_many;
  room = omega (arith, long, old.room);
}

-- where room was made for one more of a block
pub ready : (b c : ℕ) (xs ys : Slots) (next links : List ℕ) (es : List (ℕ × Ends)) (stamps more : List ℕ) → ys ≡ xs → links ≡ next → AreAbout c (present xs) → ((q : ℕ) → stamp_there more q ≡ stamp_there stamps q)
    → length stamps ≤ length more → AreLinked b xs next es stamps → AreLinked c ys links es more
ready b c xs ys next links es stamps more slots nexts about same long old =
    subst (λ (l : Slots). AreLinked c l links es more) (sym slots) (subst (λ (n : List ℕ). AreLinked c xs n es more) (sym nexts) (relabelled b c xs next es more about (restamped b xs next es stamps more same long old)))

-- ---- All up to a place.

pub cut_gone : (xs : Slots) (p : ℕ) → slot (take p xs) p ≡ None
cut_gone xs p = get_or_past (take p xs) p None (let l = length-take p xs in omega (arith, l))

pub cut_kept : (xs : Slots) (p : ℕ) (m : Message) → IsLast xs p m → (q : ℕ) → q ≢ p → slot (take p xs) q ≡ slot xs q
cut_kept xs p m last q apart = elim (cases_order q p) [
  | inl same ↦ absurd (apart same)
  | inr (inl below) ↦ get_or-take p xs q None below
  | inr (inr above) ↦ get_or_past (take p xs) q None (let l = length-take p xs in omega (arith, l, above)) ∙ sym (last.behind q above)
]

pub cut_before : (xs : Slots) (p : ℕ) (q : ℕ) (x : Message) → slot (take p xs) q ≡ Some x → q < p
cut_before xs p q x here = (let lt = in_places (take p xs) q x here in let l = length-take p xs in omega (arith, lt, l))

-- ---- The places that links name.

module _ (b : ℕ) (xs : Slots) (next : List ℕ) (es : List (ℕ × Ends)) (stamps : List ℕ) (old : AreLinked b xs next es stamps) where
  -- the next message of the DataNode
  pub next_stands : (p : ℕ) (m : Message) → slot xs p ≡ Some m → get_or next p 0 ≢ 0 → Stands m.dn (slot xs (get_or next p 0))
  next_stands p m there some = stands m.dn (slot xs (get_or next p 0)) ((old.has_next p m there).there (omega (arith, some)))

  pub next_in : (p : ℕ) (m : Message) → slot xs p ≡ Some m → get_or next p 0 ≢ 0 → get_or next p 0 < length xs
  next_in p m there some = (let s = next_stands p m there some in in_places xs (get_or next p 0) s.m s.there)

  pub last_in : (dn : ℕ) (e : Ends) → Some e ≡ value_at nat_cmp es dn → e.last < length next
  last_in dn e found =
      let has : AreEnds dn xs e = subst (HasEnds dn xs) (sym found) (old.has_ends dn) in
      omega (arith, of_place dn xs e.last has.last, old.as_many)

-- a read message
pub slot_is : (xs : Slots) (p : ℕ) (o d : Option Message) → p < length xs → o ≡ get_or xs p d → slot xs p ≡ o
slot_is xs p o d lt is = get_or_default xs p None d lt ∙ sym is

-- the head that was read goes
pub head_goes : (items now : Slots) (p : ℕ) (m x : Message) (r : Option Message) → items ≡ now → IsHead now p m → r ≡ get_or items p r → r ≡ Some x
    → length (present items) ≡ length (present (set items p None)) + 1
head_goes items now p m x r same head is some =
    let lt : p < length items = (let lt_now = in_places now p m head.there in omega (arith, lt_now, ap length same)) in
    one_fewer items p None x lt (slot_is items p r r lt is ∙ some)
