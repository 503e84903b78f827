-- What each kind of step does to the facts of a lane.
use Rattle.std.proofs.Common.{◌≡◌, ◌≢◌, ℕ, suc, ◌+◌, ◌*◌, ◌%◌, ◌<◌, ◌≤◌, List, [], ◌∷◌, ◌++◌, length, set, Option, Some, None, Bool, true, false, true≢false, refl, sym, ap, ◌∙◌, subst, ⊎_elim, arith, length-set, length-append, append_assoc}
use mathlib.Core.Option.{none, some, some-ne-none, some-injective}
use mathlib.Core.Option as maybe
use native.Mathlib.Nat.{mod-lt}
use native.Mathlib.Decide.{ℕ_discrete}
use lib.ListN.{get_elem?}
use Rattle.atomic_table.proofs.Lists.{set_here, set_else, at_longer}
use Rattle.nn_types.specs.declared.report.Message.{Message}
use Rattle.nn_lane.specs.declared.view.Sender.{Sender}
use Rattle.nn_lane.specs.declared.view.Taker.{Taker}
use Rattle.nn_lane.specs.Intake.{bit, laid}
use Rattle.nn_lane.specs.Lane.{away, LaneFacts, new_sender, new_taker, holding, with_next, looked, checked, sent_more, was_told, saw, got_more, closed_at}
use Rattle.nn_lane.proofs.Rows.{at_within, at_end, at_after, head_of, apart}

abbrev Homes : Type 0
Homes = List (maybe.Option Message)

off : false ≡ true → ⊥
off e = true≢false (sym e)

abbrev value_or : Message → Option Message → Message
value_or m None = m
value_or m (Some x) = x

module _ {node n : ℕ} {words : List ℕ} {homes : Homes} {r : Sender} {e : Taker} (K : LaneFacts node n words homes r e) where
  pub sent_length : length r.sent ≡ length e.got + length K.left
  sent_length = ap length K.split ∙ length-append e.got K.left

  -- a load of `taken`, with no room
  pub sees_full : r.out ≡ false → LaneFacts node n words homes (looked r (length e.got) false) e
  sees_full in_ = record {
    left = K.left;
    as_long = K.as_long;
    some_slot = K.some_slot;
    words_are = K.words_are;
    split = K.split;
    within = K.within;
    numbered = K.numbered;
    nodes = K.nodes;
    seen_taken = omega arith;
    fits = λ o. absurd (off o);
    seen_low = K.seen_low;
    seen_high = K.seen_high;
    closed = K.closed;
    told = K.told;
    next = K.next;
    ahead = K.ahead;
    lies = K.lies;
    vacant = λ i l _ b. K.vacant i l (λ o. absurd (off (sym in_ ∙ o))) b;
  }

  -- a load of `taken`, where the slot is out
  pub sees_again : r.out ≡ true → LaneFacts node n words homes (looked r (length e.got) true) e
  sees_again out = record {
    left = K.left;
    as_long = K.as_long;
    some_slot = K.some_slot;
    words_are = K.words_are;
    split = K.split;
    within = K.within;
    numbered = K.numbered;
    nodes = K.nodes;
    seen_taken = omega arith;
    fits = let a = K.fits out in let b = K.seen_taken in λ _. omega arith;
    seen_low = K.seen_low;
    seen_high = K.seen_high;
    closed = K.closed;
    told = K.told;
    next = K.next;
    ahead = K.ahead;
    lies = K.lies;
    vacant = λ i l a b. K.vacant i l (λ _. a refl) b;
  }

  pub fits_still : r.out ≡ true → length r.sent < length e.got + n
  fits_still out = let a = K.fits out in let b = K.seen_taken in omega arith

  -- a load of `taken`, where the slot that is out goes home
  pub gives_back : (x : Message) → r.out ≡ true → LaneFacts node n words (set homes (length r.sent % n) (some x)) (looked r (length e.got) false) e
  gives_back x out = let long = sent_length in let fits = K.fits out in let near = K.seen_taken in record {
    left = K.left;
    as_long = length-set homes _ _ ∙ K.as_long;
    some_slot = K.some_slot;
    words_are = K.words_are;
    split = K.split;
    within = K.within;
    numbered = K.numbered;
    nodes = K.nodes;
    seen_taken = omega arith;
    fits = λ o. absurd (off o);
    seen_low = K.seen_low;
    seen_high = K.seen_high;
    closed = K.closed;
    told = K.told;
    next = K.next;
    ahead = K.ahead;
    lies = λ k m at b. let inside = at_within K.left k m at in
        set_else homes (length r.sent % n) ((length e.got + k) % n) (some x) (λ same. apart (length e.got + k) (length r.sent) n (omega arith) (omega arith) (sym same)) ∙ K.lies k m at b;
    vacant = λ i l _ b. spot i l b (ℕ_discrete i (length r.sent % n));
  }
    where
      spot : (i : ℕ) → i < n → (away e.next ≡ true → i ≢ length e.got % n) → Dec (i ≡ length r.sent % n) → (y : Message) × (get_elem? (set homes (length r.sent % n) (some x)) i ≡ some (some y))
      spot i l b (yes same) = (x, ap (get_elem? (set homes (length r.sent % n) (some x))) same ∙ set_here homes (length r.sent % n) (some x) (subst (λ z. length r.sent % n < z) (sym K.as_long) (mod-lt (length r.sent) K.some_slot)))
      spot i l b (no other) = let was = K.vacant i l (λ _. other) b in (was.0, set_else homes (length r.sent % n) i (some x) other ∙ was.1)

  -- a load of `taken`, with room: the slot of the next message is at home
  pub room_at : r.out ≡ false → length r.sent < length e.got + n → (y : Message) × (get_elem? homes (length r.sent % n) ≡ some (some y))
  room_at in_ room = let long = sent_length in
      K.vacant (length r.sent % n) (mod-lt (length r.sent) K.some_slot) (λ o. absurd (off (sym in_ ∙ o))) (λ aw. at_next aw)
    where
      has_one : (x : Option Message) → x ≡ e.next → away x ≡ true → 0 < length K.left
      has_one None is aw = absurd (off aw)
      has_one (Some m) is aw = at_within K.left 0 m (K.next m (sym is))

      at_next : away e.next ≡ true → length r.sent % n ≢ length e.got % n
      at_next aw = let one = has_one e.next refl aw in let long = sent_length in apart (length e.got) (length r.sent) n (omega arith) (let h : length r.sent < length e.got + n = room in h)

  -- the slot of the next message is taken, where the reporter knows that there is room
  pub holds_room : length r.sent < r.seen + n → LaneFacts node n words (set homes (length r.sent % n) none) (holding r true) e
  holds_room fits = let long = sent_length in let seen = K.seen_taken in record {
    left = K.left;
    as_long = length-set homes _ _ ∙ K.as_long;
    some_slot = K.some_slot;
    words_are = K.words_are;
    split = K.split;
    within = K.within;
    numbered = K.numbered;
    nodes = K.nodes;
    seen_taken = K.seen_taken;
    fits = λ _. fits;
    seen_low = K.seen_low;
    seen_high = K.seen_high;
    closed = K.closed;
    told = K.told;
    next = K.next;
    ahead = K.ahead;
    lies = λ k m at b. let near = at_within K.left k m at in
        set_else homes (length r.sent % n) ((length e.got + k) % n) none (λ same. apart (length e.got + k) (length r.sent) n (omega arith) (omega arith) (sym same)) ∙ K.lies k m at b;
    vacant = λ i l a b. let other = a refl in let was = K.vacant i l (λ _. other) b in (was.0, set_else homes (length r.sent % n) i none other ∙ was.1);
  }

  -- the exchange of `front`, where it wins: the lane is open, and the slot goes home with the next message
  pub accepts : (x : Message) → e.closed ≡ false → r.out ≡ true → x.number ≡ length r.sent + 1 → x.dn ≡ node
      → LaneFacts node n (laid (2 * length r.sent + 2) (length e.got)) (set homes (length r.sent % n) (some x)) (sent_more r x false) e
  accepts x open_ out number dn = let long = sent_length in let fits = K.fits out in let near = K.seen_taken in let grown : length (r.sent ++ x ∷ []) ≡ length r.sent + 1 = length-append r.sent (x ∷ []) in
      record {
        left = K.left ++ x ∷ [];
        as_long = length-set homes _ _ ∙ K.as_long;
        some_slot = K.some_slot;
        words_are = λ i. laid (front open_ grown i) (length e.got);
        split = ap (λ l. l ++ x ∷ []) K.split ∙ append_assoc e.got K.left (x ∷ []);
        within = let more = length-append K.left (x ∷ []) in omega arith;
        numbered = λ k m at. ⊎_elim (λ was. K.numbered k m was) (λ (h : (k ≡ length r.sent) × (x ≡ m)). (sym (ap (λ z. z.number) h.1) ∙ number ∙ ap (λ z. z + 1) (sym h.0), sym (ap (λ z. z.dn) h.1) ∙ dn)) (at_end r.sent x m k at);
        nodes = K.nodes;
        seen_taken = K.seen_taken;
        fits = λ o. absurd (off o);
        seen_low = K.seen_low;
        seen_high = let h = K.seen_high in omega arith;
        closed = λ c. absurd (off (sym open_ ∙ c));
        told = K.told;
        next = λ m is. at_longer K.left (x ∷ []) 0 m (K.next m is);
        ahead = K.ahead;
        lies = λ k m at b. ⊎_elim
            (λ was. let inside = at_within K.left k m was in
            set_else homes (length r.sent % n) ((length e.got + k) % n) (some x) (λ same. apart (length e.got + k) (length r.sent) n (omega arith) (omega arith) (sym same)) ∙ K.lies k m was b)
            (λ (h : (k ≡ length K.left) × (x ≡ m)). let here : length r.sent ≡ length e.got + k = omega (arith, h.0) in
            ap (λ z. get_elem? (set homes (length r.sent % n) (some x)) (z % n)) (sym here)
            ∙ set_here homes (length r.sent % n) (some x) (subst (λ z. length r.sent % n < z) (sym K.as_long) (mod-lt (length r.sent) K.some_slot))
            ∙ ap (λ z. some (some z)) h.1)
            (at_end K.left x m k at);
        vacant = λ i l _ b. spot i l b (ℕ_discrete i (length r.sent % n));
      }
    where
      front : e.closed ≡ false → length (r.sent ++ x ∷ []) ≡ length r.sent + 1 → 2 * length r.sent + 2 ≡ 2 * length (r.sent ++ x ∷ []) + bit e.closed
      front c g = let b : bit e.closed ≡ 0 = ap bit c in omega arith

      spot : (i : ℕ) → i < n → (away e.next ≡ true → i ≢ length e.got % n) → Dec (i ≡ length r.sent % n) → (y : Message) × (get_elem? (set homes (length r.sent % n) (some x)) i ≡ some (some y))
      spot i l b (yes same) = (x, ap (get_elem? (set homes (length r.sent % n) (some x))) same ∙ set_here homes (length r.sent % n) (some x) (subst (λ z. length r.sent % n < z) (sym K.as_long) (mod-lt (length r.sent) K.some_slot)))
      spot i l b (no other) = let was = K.vacant i l (λ _. other) b in (was.0, set_else homes (length r.sent % n) i (some x) other ∙ was.1)

  -- the exchange of `front`, where it fails: the lane is closed
  pub tells : e.closed ≡ true → LaneFacts node n words homes (was_told r) e
  tells shut_ = record {
    left = K.left;
    as_long = K.as_long;
    some_slot = K.some_slot;
    words_are = K.words_are;
    split = K.split;
    within = K.within;
    numbered = K.numbered;
    nodes = K.nodes;
    seen_taken = K.seen_taken;
    fits = K.fits;
    seen_low = K.seen_low;
    seen_high = K.seen_high;
    closed = K.closed;
    told = λ _. shut_;
    next = K.next;
    ahead = K.ahead;
    lies = K.lies;
    vacant = K.vacant;
  }

  -- a load of `front` by the reporter, who is told only of a close
  pub checks : (b : Bool) → (b ≡ true → e.closed ≡ true) → LaneFacts node n words homes (checked r b) e
  checks b told_so = record {
    left = K.left;
    as_long = K.as_long;
    some_slot = K.some_slot;
    words_are = K.words_are;
    split = K.split;
    within = K.within;
    numbered = K.numbered;
    nodes = K.nodes;
    seen_taken = K.seen_taken;
    fits = K.fits;
    seen_low = K.seen_low;
    seen_high = K.seen_high;
    closed = K.closed;
    told = told_so;
    next = K.next;
    ahead = K.ahead;
    lies = K.lies;
    vacant = K.vacant;
  }

  -- a load of `front`, before a slot is taken
  pub sees : e.next ≡ None → LaneFacts node n words homes r (saw e (length r.sent) None)
  sees is = let long = sent_length in record {
    left = K.left;
    as_long = K.as_long;
    some_slot = K.some_slot;
    words_are = K.words_are;
    split = K.split;
    within = K.within;
    numbered = K.numbered;
    nodes = K.nodes;
    seen_taken = K.seen_taken;
    fits = K.fits;
    seen_low = omega arith;
    seen_high = omega arith;
    closed = λ _. refl;
    told = K.told;
    next = λ m some_. absurd (cc);
    ahead = λ m some_. absurd (cc);
    lies = λ k m at _. K.lies k m at (λ aw. absurd (off (ap away (sym is) ∙ aw)));
    vacant = λ i l a _. K.vacant i l a (λ aw. absurd (off (ap away (sym is) ∙ aw)));
  }

  -- the slot of the first untaken message is taken, where the other end knows of one
  pub holds_next : e.next ≡ None → length e.got < e.seen
      → (x : Message) × (get_elem? homes (length e.got % n) ≡ some (some x)) × (x.number ≡ length e.got + 1) × (x.dn ≡ node) × LaneFacts node n words (set homes (length e.got % n) none) r (with_next e (Some x))
  holds_next is some_left = let long = sent_length in let seen = K.seen_high in
      let h = head_of K.left (let more : 0 < length K.left = omega arith in more) in
      let first : get_elem? K.left 0 ≡ some h.0 = ap (λ l. get_elem? l 0) h.2 in
      let none_out : away e.next ≡ true → ⊥ = λ aw. off (ap away (sym is) ∙ aw) in
      let home : get_elem? homes ((length e.got + 0) % n) ≡ some (some h.0) = K.lies 0 h.0 first (λ aw. absurd (none_out aw)) in
      let stands : get_elem? r.sent (length e.got + 0) ≡ some h.0 = ap (λ l. get_elem? l (length e.got + 0)) K.split ∙ at_after e.got K.left 0 h.0 first in
      let plain : length e.got + 0 ≡ length e.got = omega arith in
      let is_numbered = K.numbered (length e.got + 0) h.0 stands in (
        h.0,
        ap (λ z. get_elem? homes (z % n)) (sym plain) ∙ home,
        is_numbered.0 ∙ ap (λ z. z + 1) plain,
        is_numbered.1,
        record {
          left = K.left;
          as_long = length-set homes _ _ ∙ K.as_long;
          some_slot = K.some_slot;
          words_are = K.words_are;
          split = K.split;
          within = K.within;
          numbered = K.numbered;
          nodes = K.nodes;
          seen_taken = K.seen_taken;
          fits = K.fits;
          seen_low = K.seen_low;
          seen_high = K.seen_high;
          closed = K.closed;
          told = K.told;
          next = λ m same. first ∙ ap (λ o. some (value_or m o)) same;
          ahead = λ m same. some_left;
          lies = λ k m at b. let k_pos : 0 < k = b refl in let near = at_within K.left k m at in let w = K.within in
              set_else homes (length e.got % n) ((length e.got + k) % n) none (λ same. apart (length e.got) (length e.got + k) n (omega arith) (omega arith) same) ∙ K.lies k m at (λ aw. absurd (none_out aw));
          vacant = λ i l a b. let other = b refl in let was = K.vacant i l a (λ aw. absurd (none_out aw)) in (was.0, set_else homes (length e.got % n) i none other ∙ was.1);
        },
      )

  -- the store of `taken`: the first untaken message is taken, and its slot goes home with whatever it has
  pub takes : (x y : Message) → e.next ≡ Some x → LaneFacts node n (laid (2 * length r.sent + bit e.closed) (length e.got + 1)) (set homes (length e.got % n) (some y)) r (got_more e x None)
  takes x y is = go K.left refl
    where
      go : (l : List Message) → l ≡ K.left → LaneFacts node n (laid (2 * length r.sent + bit e.closed) (length e.got + 1)) (set homes (length e.got % n) (some y)) r (got_more e x None)
      go [] l_is = absurd (some-ne-none x (sym (ap (λ l. get_elem? l 0) l_is ∙ K.next x is)))
      go (z ∷ zs) l_is =
          let first : z ≡ x = some-injective z x (ap (λ l. get_elem? l 0) l_is ∙ K.next x is) in
          let long : length r.sent ≡ length e.got + suc (length zs) = sent_length ∙ ap (λ l. length e.got + length l) (sym l_is) in
          let grown : length (e.got ++ x ∷ []) ≡ length e.got + 1 = length-append e.got (x ∷ []) in
          let fit : suc (length zs) ≤ n = subst (λ l. length l ≤ n) (sym l_is) K.within in
          let room = K.seen_taken in let low = K.seen_high in record {
            left = zs;
            as_long = length-set homes _ _ ∙ K.as_long;
            some_slot = K.some_slot;
            words_are = λ i. laid (2 * length r.sent + bit e.closed) (sym grown i);
            split = K.split ∙ ap (λ l. e.got ++ l) (sym l_is) ∙ ap (λ w. e.got ++ w ∷ zs) first ∙ sym (append_assoc e.got (x ∷ []) zs);
            within = omega arith;
            numbered = K.numbered;
            nodes = K.nodes;
            seen_taken = omega arith;
            fits = K.fits;
            seen_low = let s = K.ahead x is in omega arith;
            seen_high = K.seen_high;
            closed = K.closed;
            told = K.told;
            next = λ m none_. absurd (cc);
            ahead = λ m none_. absurd (cc);
            lies = λ k m at _. let near = at_within zs k m at in
                let place : length (e.got ++ x ∷ []) + k ≡ length e.got + suc k = omega arith in
                ap (λ w. get_elem? (set homes (length e.got % n) (some y)) (w % n)) place
                ∙ set_else homes (length e.got % n) ((length e.got + suc k) % n) (some y) (λ same. apart (length e.got) (length e.got + suc k) n (omega arith) (omega arith) same)
                ∙ K.lies (suc k) m (ap (λ l. get_elem? l (suc k)) (sym l_is) ∙ at) (λ _. omega arith);
            vacant = λ i l a _. spot i l a (ℕ_discrete i (length e.got % n));
          }
        where
          spot : (i : ℕ) → i < n → (r.out ≡ true → i ≢ length r.sent % n) → Dec (i ≡ length e.got % n) → (w : Message) × (get_elem? (set homes (length e.got % n) (some y)) i ≡ some (some w))
          spot i l a (yes same) = (y, ap (get_elem? (set homes (length e.got % n) (some y))) same ∙ set_here homes (length e.got % n) (some y) (subst (λ w. length e.got % n < w) (sym K.as_long) (mod-lt (length e.got) K.some_slot)))
          spot i l a (no other) = let was = K.vacant i l a (λ _. other) in (was.0, set_else homes (length e.got % n) i (some y) other ∙ was.1)

  -- the close
  pub shuts : LaneFacts node n (laid (2 * length r.sent + 1) (length e.got)) homes r (closed_at e (length r.sent) e.next)
  shuts = record {
    left = K.left;
    as_long = K.as_long;
    some_slot = K.some_slot;
    words_are = refl;
    split = K.split;
    within = K.within;
    numbered = K.numbered;
    nodes = K.nodes;
    seen_taken = K.seen_taken;
    fits = K.fits;
    seen_low = let long = sent_length in omega arith;
    seen_high = omega arith;
    closed = λ _. refl;
    told = λ _. refl;
    next = K.next;
    ahead = λ m is. let a = K.ahead m is in let b = K.seen_high in omega arith;
    lies = K.lies;
    vacant = K.vacant;
  }

pub begins : (node n : ℕ) (homes : Homes) → 0 < n → length homes ≡ n → ((i : ℕ) → i < n → (y : Message) × (get_elem? homes i ≡ some (some y))) → LaneFacts node n (laid 0 0) homes (new_sender node) (new_taker node)
begins node n homes pos long each = record {
  left = [];
  as_long = long;
  some_slot = pos;
  words_are = refl;
  split = refl;
  within = omega arith;
  numbered = λ k m at. absurd (some-ne-none m (sym at));
  nodes = (refl, refl);
  seen_taken = omega arith;
  fits = λ o. absurd (off o);
  seen_low = omega arith;
  seen_high = omega arith;
  closed = λ c. absurd (off c);
  told = λ t. absurd (off t);
  next = λ m none_. absurd (cc);
  ahead = λ m none_. absurd (cc);
  lies = λ k m at _. absurd (some-ne-none m (sym at));
  vacant = λ i l _ _. each i l;
}
