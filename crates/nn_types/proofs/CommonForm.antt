-- Texts in the common form are paths: seen byte by byte, and cut at their slashes.
use Rattle.std.proofs.Common.{◌≡◌, ℕ, zero, suc, ◌+◌, ◌-◌, ◌<◌, ◌≤◌, ◌^◌, ◌%◌, List, [], ◌∷◌, length, take, drop, get_or, map, Bool, true, false, cond, not, ◌&&◌, ◌||◌, ◌==◌, nat_lt, ltb-true, ltb-false, Some, refl, sym, ap, ap₂, ◌∙◌, arith, subst}
use Rattle.std.specs.List.{slice_split, onto_first, list_all}
use Rattle.std.proofs.lemmas.Bool.{and_from, lt-ltb, le-leb, ne_eqb}
use Rattle.std.proofs.lemmas.Simd.{mask_l-mod, length-zip2, get_or-zip2}
use Rattle.std.proofs.lemmas.List.{get_or-take, get_or-drop, length-take-le, length-drop}
use lib.Bits.{bit_or, bit_and}
use lib.Lanes.{mask_l, zip2, top}
use lib.ListN.{replicate}
use Rattle.nn_bytes.proofs.Bytewise.{hit}
use Rattle.nn_types.specs.Path.{slash, colon, is_name_byte, is_name, parts, path_of, names_of_text}
use Rattle.nn_types.specs.Simple.{dot, is_fault}
use Rattle.nn_types.proofs.Paths.{cuts, checked}

-- ---- the faults of a block

either : (a b : Bool) → bit_or (cond a 255 0) (cond b 255 0) ≡ cond (a || b) 255 0
either true true = refl
either true false = refl
either false true = refl
either false false = refl

both : (a b : Bool) → bit_and (cond a 255 0) (cond b 255 0) ≡ cond (a && b) 255 0
both true true = refl
both true false = refl
both false true = refl
both false false = refl

top_is : (b : Bool) → top 7 (cond b 255 0) ≡ b
top_is true = refl
top_is false = refl

lane : (p q r s : Bool) → top 7 (bit_or (cond p 255 0) (bit_and (cond q 255 0) (bit_or (cond r 255 0) (cond s 255 0)))) ≡ (p || (q && (r || s)))
lane p q r s =
    ap (λ n. top 7 (bit_or (cond p 255 0) n)) (ap (bit_and (cond q 255 0)) (either r s) ∙ both q (r || s))
    ∙ ap (top 7) (either p (q && (r || s))) ∙ top_is (p || (q && (r || s)))

lanes : (n : ℕ) (here behind : List ℕ) → length here ≡ n → length behind ≡ n
    → map (top 7) (zip2 bit_or (zip2 hit here (replicate n 58)) (zip2 bit_and (zip2 hit here (replicate n 47)) (zip2 bit_or (zip2 hit behind (replicate n 47)) (zip2 hit behind (replicate n 46)))))
    ≡ zip2 is_fault here behind
lanes zero [] [] e f = refl
lanes zero (x ∷ xs) ys e f = absurd (omega (arith, e))
lanes zero [] (y ∷ ys) e f = absurd (omega (arith, f))
lanes (suc n) [] ys e f = absurd (omega (arith, e))
lanes (suc n) (x ∷ xs) [] e f = absurd (omega (arith, f))
lanes (suc n) (x ∷ xs) (y ∷ ys) e f =
    ap₂ (λ b bs. b ∷ bs) (lane (x == 58) (x == 47) (y == 47) (y == 46)) (lanes n xs ys (omega (arith, e)) (omega (arith, f)))

pub faults_are : (here behind : List ℕ) → length here ≡ 16 → length behind ≡ 16
    → mask_l (map (top 7) (zip2 bit_or (zip2 hit here (replicate 16 58)) (zip2 bit_and (zip2 hit here (replicate 16 47)) (zip2 bit_or (zip2 hit behind (replicate 16 47)) (zip2 hit behind (replicate 16 46)))))) % 2 ^ 64
    ≡ mask_l (zip2 is_fault here behind)
faults_are here behind e f =
    ap (λ ms. mask_l ms % 2 ^ 64) (lanes 16 here behind e f)
    ∙ mask_l-mod (zip2 is_fault here behind) 64 (omega (arith, length-zip2 is_fault here behind (e ∙ sym f), e))

none_set : (ms : List Bool) → mask_l ms ≡ 0 → (k : ℕ) → get_or ms k false ≡ false
none_set [] e k = refl
none_set (true ∷ ms) e k = absurd (omega (arith, e))
none_set (false ∷ ms) e zero = refl
none_set (false ∷ ms) e (suc k) = none_set ms (omega (arith, e)) k

pub not_false : (b : Bool) → not b ≡ false → b ≡ true
not_false true e = refl
not_false false e = absurd (cc)

pub no_fault : (d here behind : List ℕ) (from : ℕ) → from + 17 ≤ length d → here ≡ take 16 (drop from d) → behind ≡ take 16 (drop (from + 1) d)
    → mask_l (zip2 is_fault here behind) ≡ 0 → (k : ℕ) → from ≤ k → k < from + 16 → is_fault (get_or d k 0) (get_or d (k + 1) 0) ≡ false
no_fault d here behind from room is next none k low high =
    let j = k - from in
    let less : j < 16 = omega (arith, low, high) in
    let long : length (take 16 (drop from d)) ≡ 16 = length-take-le 16 (drop from d) (omega (arith, length-drop from d, room)) in
    let long' : length (take 16 (drop (from + 1) d)) ≡ 16 = length-take-le 16 (drop (from + 1) d) (omega (arith, length-drop (from + 1) d, room)) in
    let at : get_or here j 0 ≡ get_or d k 0 = ap (λ l. get_or l j 0) is ∙ get_or-take 16 (drop from d) j 0 less ∙ get_or-drop from d j 0 ∙ ap (λ i. get_or d i 0) (omega (arith, low)) in
    let at' : get_or behind j 0 ≡ get_or d (k + 1) 0 = ap (λ l. get_or l j 0) next ∙ get_or-take 16 (drop (from + 1) d) j 0 less ∙ get_or-drop (from + 1) d j 0 ∙ ap (λ i. get_or d i 0) (omega (arith, low)) in
    ap₂ is_fault (sym at) (sym at')
    ∙ sym (get_or-zip2 is_fault here behind j 0 0 false (omega (arith, ap length is, long, less)) (omega (arith, ap length next, long', less)))
    ∙ none_set (zip2 is_fault here behind) none j

-- ---- block by block

-- No byte up to `to` is a fault.
abbrev NoneTo : List ℕ → ℕ → Type 0
NoneTo d to = (k : ℕ) → k < to → is_fault (get_or d k 0) (get_or d (k + 1) 0) ≡ false

pub more_seen : (d : List ℕ) (i : ℕ) → NoneTo d i → ((k : ℕ) → i ≤ k → k < i + 16 → is_fault (get_or d k 0) (get_or d (k + 1) 0) ≡ false) → NoneTo d (i + 16)
more_seen d i front block k less = at (nat_lt k i) refl
  where
    at : (b : Bool) → nat_lt k i ≡ b → is_fault (get_or d k 0) (get_or d (k + 1) 0) ≡ false
    at true e = front k (ltb-true k i e)
    at false e = block k (ltb-false k i e) less

-- The last block overlaps with what was seen.
pub all_seen : (d : List ℕ) (i : ℕ) → 17 ≤ length d → length d ≤ i + 17 → NoneTo d i
    → ((k : ℕ) → length d - 17 ≤ k → k < length d - 17 + 16 → is_fault (get_or d k 0) (get_or d (k + 1) 0) ≡ false)
    → (k : ℕ) → k + 1 < length d → is_fault (get_or d k 0) (get_or d (k + 1) 0) ≡ false
all_seen d i long end front block k less = at (nat_lt k i) refl
  where
    at : (b : Bool) → nat_lt k i ≡ b → is_fault (get_or d k 0) (get_or d (k + 1) 0) ≡ false
    at true e = front k (ltb-true k i e)
    at false e = block k (omega (arith, ltb-false k i e, end)) (omega (arith, less, long))

pub last_byte : (b : ℕ) → (b ≡ 47 → ⊥) → not (b == 58) ≡ true → is_name_byte b ≡ true
last_byte b slash colon = rw (ne_eqb b 47 slash, colon) refl

-- ---- cut at the slashes

-- A name that is not empty begins with no dot.
abbrev Begins : List ℕ → Type 0
Begins [] = ⊥
Begins (b ∷ bs) = (b == dot) ≡ false

named : (name : List ℕ) → list_all is_name_byte name ≡ true → length name ≤ 255 → Begins name → is_name name ≡ true
named [] bytes short h = absurd h
named (b ∷ bs) bytes short h = let some : nat_lt 0 (length (b ∷ bs)) ≡ true = lt-ltb 0 (length (b ∷ bs)) (omega arith) in rw (some, le-leb (length (b ∷ bs)) 255 short, h, bytes) refl

-- The first part of at most n bytes, behind a slash or not, and the names after it.
record Cut (fresh : Bool) (n : ℕ) (first : List ℕ) (others : List (List ℕ)) : Type 0 where
  bytes : list_all is_name_byte first ≡ true
  short : length first ≤ n
  begins : fresh ≡ true → Begins first
  each : list_all is_name others ≡ true
  few : length others ≤ n

abbrev IsCut : Bool → ℕ → List (List ℕ) → Type 0
IsCut fresh n [] = ⊥
IsCut fresh n (first ∷ others) = Cut fresh n first others

-- No byte is a fault with the one behind it, and the last is a name's.
record Simple (b : ℕ) (bs : List ℕ) : Type 0 where
  none : (k : ℕ) → k < length bs → is_fault (get_or (b ∷ bs) k 0) (get_or (b ∷ bs) (suc k) 0) ≡ false
  last : is_name_byte (get_or (b ∷ bs) (length bs) 0) ≡ true

behind : (b c : ℕ) (cs : List ℕ) → Simple b (c ∷ cs) → Simple c cs
behind b c cs s = record { none = λ k less. s.none (suc k) (omega (arith, less)); last = s.last }

or_parts : (a b : Bool) → (a || b) ≡ false → (a ≡ false) × (b ≡ false)
or_parts true b e = absurd (cc)
or_parts false b e = (refl, e)

name_byte : (b : ℕ) → is_name_byte b ≡ true → ((b == slash) ≡ false) × ((b == colon) ≡ false)
name_byte b e = at (b == slash) (b == colon) e
  where
    at : (p q : Bool) → (not p && not q) ≡ true → (p ≡ false) × (q ≡ false)
    at false false e = (refl, refl)
    at true q e = absurd (cc)
    at false true e = absurd (cc)

no_colon : (b : ℕ) (bs : List ℕ) → Simple b bs → (b == colon) ≡ false
no_colon b [] s = (name_byte b s.last).1
no_colon b (c ∷ cs) s = (or_parts (b == colon) _ (s.none 0 (omega arith))).0

-- Behind a slash stand neither a slash nor a dot.
behind_slash : (a p q : Bool) → (a || (true && (p || q))) ≡ false → (p ≡ false) × (q ≡ false)
behind_slash true p q e = absurd (cc)
behind_slash false p q e = or_parts p q e

next_is : (b c : ℕ) → is_fault b c ≡ false → (b == slash) ≡ true → ((c == slash) ≡ false) × ((c == dot) ≡ false)
next_is b c e fresh = behind_slash (b == colon) (c == slash) (c == dot) (ap (λ t. (b == colon) || (t && ((c == slash) || (c == dot)))) (sym fresh) ∙ e)

at_slash : (fresh : Bool) (n : ℕ) (ps : List (List ℕ)) → n ≤ 255 → (fresh ≡ true → ⊥) → IsCut true n ps → IsCut fresh (suc n) ([] ∷ ps)
at_slash fresh n [] most other h = absurd h
at_slash fresh n (p ∷ ps) most other h =
    record {
      bytes = refl;
      short = omega arith;
      begins = λ e. absurd (other e);
      each = and_from _ _ (named p h.bytes (omega (arith, h.short, most)) (h.begins refl)) h.each;
      few = omega (arith, h.few);
    }

at_other : (fresh : Bool) (n c : ℕ) (ps : List (List ℕ)) → is_name_byte c ≡ true → (fresh ≡ true → (c == dot) ≡ false) → IsCut false n ps → IsCut fresh (suc n) (onto_first c ps)
at_other fresh n c [] byte begins h = absurd h
at_other fresh n c (p ∷ ps) byte begins h =
    record {
      bytes = and_from _ _ byte h.bytes;
      short = omega (arith, h.short);
      begins = begins;
      each = h.each;
      few = omega (arith, h.few);
    }

cut : (b : ℕ) (bs : List ℕ) → length bs ≤ 255 → Simple b bs → IsCut (b == slash) (length bs) (slice_split cuts bs)
cut b [] short s = record { bytes = refl; short = omega arith; begins = λ e. let other = (name_byte b s.last).0 in absurd (cc); each = refl; few = omega arith }
cut b (c ∷ cs) short s = at (c == slash) refl (cut c cs (omega (arith, short)) (behind b c cs s))
  where
    at : (t : Bool) → (c == slash) ≡ t → IsCut (c == slash) (length cs) (slice_split cuts cs)
        → IsCut (b == slash) (suc (length cs)) (cond t ([] ∷ slice_split cuts cs) (onto_first c (slice_split cuts cs)))
    at true e h =
        at_slash (b == slash) (length cs) (slice_split cuts cs) (omega (arith, short))
        (λ fresh. let other = (next_is b c (s.none 0 (omega arith)) fresh).0 in absurd (cc))
        (subst (λ t. IsCut t (length cs) (slice_split cuts cs)) e h)
    at false e h =
        let byte : is_name_byte c ≡ true = rw (e, no_colon c cs (behind b c cs s)) refl in
        at_other (b == slash) (length cs) c (slice_split cuts cs) byte
        (λ fresh. (next_is b c (s.none 0 (omega arith)) fresh).1)
        (subst (λ t. IsCut t (length cs) (slice_split cuts cs)) e h)

-- ---- a text in the common form

are_names : (n : ℕ) (ps : List (List ℕ)) → n ≤ 255 → IsCut true n ps → (list_all is_name ps ≡ true) × (length ps ≤ 256)
are_names n [] most h = absurd h
are_names n (p ∷ ps) most h = (and_from _ _ (named p h.bytes (omega (arith, h.short, most)) (h.begins refl)) h.each, omega (arith, h.few, most))

pub simple_path : (d : List ℕ) → 17 ≤ length d → length d ≤ 256 → get_or d 0 0 ≡ 47
    → ((k : ℕ) → k + 1 < length d → is_fault (get_or d k 0) (get_or d (k + 1) 0) ≡ false)
    → is_name_byte (get_or d (length d - 1) 0) ≡ true → path_of d ≡ Some (names_of_text d)
simple_path [] long short first none last = absurd (omega (arith, long))
simple_path (b ∷ []) long short first none last = absurd (omega (arith, long))
simple_path (b ∷ c ∷ cs) long short first none last =
    let s : Simple b (c ∷ cs) = record {
      none = λ k less. let next : suc k ≡ k + 1 = omega arith in ap (λ j. is_fault (get_or (b ∷ c ∷ cs) k 0) (get_or (b ∷ c ∷ cs) j 0)) next ∙ none k (omega (arith, less));
      last = let same : length (c ∷ cs) ≡ length (b ∷ c ∷ cs) - 1 = omega arith in ap (λ j. is_name_byte (get_or (b ∷ c ∷ cs) j 0)) same ∙ last;
    } in
    let fresh : (b == slash) ≡ true = rw first refl in
    let is = are_names (length (c ∷ cs)) (slice_split cuts (c ∷ cs)) (omega (arith, short)) (subst (λ t. IsCut t (length (c ∷ cs)) (slice_split cuts (c ∷ cs))) fresh (cut b (c ∷ cs) (omega (arith, short)) s)) in
    (checked (b ∷ c ∷ cs) (c ∷ cs) (parts (c ∷ cs)) (ap (λ x. x ∷ c ∷ cs) first) refl is.0 (omega (arith, is.1)) (omega (arith, short))).1
