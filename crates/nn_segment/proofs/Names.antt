-- Names: what stands in one, and that it is read back.
use Rattle.std.proofs.Common.{◌≡◌, ◌≢◌, ℕ, ◌^◌, ◌<◌, ◌≤◌, List, [], ◌∷◌, ◌++◌, length, take, drop, get_or, Bool, true, false, cond, leb, ltb, ◌&&◌, Option, Some, None, refl, sym, ap, ◌∙◌, subst, arith, append_assoc, length-append, leb-true, ltb-true, replicate, ◌-◌, append-nil, Result, Ok, Err}
use Rattle.std.specs.Prelude.{codes, SomeIff, IfSome, IfOk, ◌==◌}
use Rattle.std.specs.Fmt.{decimal, padded_integral, format_spec, char_count}
use Rattle.std.specs.List.{starts_with}
use Rattle.std.proofs.lemmas.Bool.{and_parts, and_from, le-leb, lt-ltb, cond-true, both_ways}
use Rattle.std.proofs.lemmas.Bool.Decides.{Decides-eqb}
use Rattle.std.proofs.lemmas.List.{take_at, drop_at, take_all, get_or_at, drop_more, take-append-drop, drop-drop}
use Rattle.std.proofs.lemmas.Option.{cond_some}
use Rattle.std.proofs.lemmas.Slice.Eq.{bytes_eq-Decides, starts_is}
use Rattle.nn_segment.specs.Name.{digits, segment_file_name, number_spelled, if_named, txids_of, IsNameOf}
use Rattle.nn_segment.proofs.Digits.{length-digits, number_of-digits, digits_padded}

abbrev head_text : List ℕ
head_text = codes "edits_"

abbrev dash : List ℕ
dash = codes "-"

-- the four parts of a name
pub parts : (first last : ℕ) → segment_file_name first last ≡ head_text ++ (digits 19 first ++ (dash ++ digits 19 last))
unfolding segment_file_name
parts first last =
    append_assoc (head_text ++ digits 19 first) dash (digits 19 last) ∙ append_assoc head_text (digits 19 first) (dash ++ digits 19 last)

pub length-name : (first last : ℕ) → length (segment_file_name first last) ≡ 45
length-name first last =
    ap length (parts first last)
    ∙ omega (arith, length-append (digits 19 first) (dash ++ digits 19 last), length-digits 19 first, length-digits 19 last)

-- what follows the head, and what follows the dash
pub drop-head : (first last : ℕ) → drop 6 (segment_file_name first last) ≡ digits 19 first ++ (dash ++ digits 19 last)
drop-head first last = ap (drop 6) (parts first last)

pub first-digits : (first last : ℕ) → take 19 (drop 6 (segment_file_name first last)) ≡ digits 19 first
first-digits first last =
    ap (take 19) (drop-head first last) ∙ take_at (digits 19 first) (dash ++ digits 19 last) 19 (length-digits 19 first)

before_last : (first last : ℕ) → segment_file_name first last ≡ (head_text ++ digits 19 first ++ dash) ++ digits 19 last
unfolding segment_file_name
before_last first last = refl

pub last-digits : (first last : ℕ) → drop 26 (segment_file_name first last) ≡ digits 19 last
last-digits first last =
    ap (drop 26) (before_last first last)
    ∙ drop_at (head_text ++ digits 19 first ++ dash) (digits 19 last) 26 (length-append (head_text ++ digits 19 first) dash ∙ omega (arith, length-append head_text (digits 19 first), length-digits 19 first))

-- a name is read back, where its txids are in order
pub read-name : (first last : ℕ) → first < 10 ^ 19 → last < 10 ^ 19
    → txids_of (segment_file_name first last) ≡ cond (leb 1 first && leb first last && ltb last (2 ^ 63)) (Some (first, last)) None
unfolding txids_of
read-name first last f l =
    let text = segment_file_name first last in
    let one : number_spelled (take 19 (drop 6 text)) ≡ first = ap number_spelled (first-digits first last) ∙ number_of-digits 19 first f in
    let rest : take 19 (drop 26 text) ≡ digits 19 last = ap (take 19) (last-digits first last) ∙ take_all 19 (digits 19 last) (omega (arith, length-digits 19 last)) in
    let other : number_spelled (take 19 (drop 26 text)) ≡ last = ap number_spelled rest ∙ number_of-digits 19 last l in
    ap (λ n. if_named text n (number_spelled (take 19 (drop 26 text)))) one
    ∙ ap (if_named text first) other
    ∙ ap (λ b. cond (leb 1 first && leb first last && ltb last (2 ^ 63) && b) (Some (first, last)) None) ((bytes_eq-Decides text text).1 refl)
    ∙ ap (λ b. cond b (Some (first, last)) None) (and_true (leb 1 first && leb first last && ltb last (2 ^ 63)))
  where
    and_true : (b : Bool) → (b && true) ≡ b
    and_true true = refl
    and_true false = refl

below : (n : ℕ) → n < 2 ^ 63 → n < 10 ^ 19
below n h = omega arith

-- the text of two txids in order names them
pub names : (text : List ℕ) (first last : ℕ) → IsNameOf text first last → txids_of text ≡ Some (first, last)
names text first last is =
    ap txids_of is.spelled
    ∙ read-name first last (omega (arith, is.in_order, is.in_range)) (below last is.in_range)
    ∙ cond-true _ (Some (first, last)) None (and_from _ _ (and_from _ _ (le-leb 1 first is.from_one) (le-leb first last is.in_order)) (lt-ltb last (2 ^ 63) is.in_range))

-- what is read of a text is what the text names
pub named : (text : List ℕ) (first last : ℕ) → txids_of text ≡ Some (first, last) → IsNameOf text first last
unfolding txids_of
named text first last e = by_numbers (number_spelled (take 19 (drop 6 text))) (number_spelled (take 19 (drop 26 text))) e
  where
    by_numbers : (n m : ℕ) → if_named text n m ≡ Some (first, last) → IsNameOf text first last
    by_numbers n m e =
        let found = cond_some _ (n, m) (first, last) e in
        let all = and_parts _ _ found.0 in
        let numbers = and_parts _ _ all.0 in
        let order = and_parts _ _ numbers.0 in
        let is : IsNameOf text n m = record {
          from_one = leb-true 1 n order.0;
          in_order = leb-true n m order.1;
          in_range = ltb-true m (2 ^ 63) numbers.1;
          spelled = (bytes_eq-Decides text (segment_file_name n m)).0 all.1;
        } in
        subst (λ (p : ℕ × ℕ). IsNameOf text p.0 p.1) found.1 is

-- a text that is no name is not read
pub unnamed : (text : List ℕ) → ((first last : ℕ) → text ≢ segment_file_name first last) → txids_of text ≡ None
unnamed text other = at (txids_of text) refl
  where
    at : (o : Option (ℕ × ℕ)) → txids_of text ≡ o → txids_of text ≡ None
    at None e = e
    at (Some p) e = absurd (other p.0 p.1 (named text p.0 p.1 e).spelled)

-- the txids of a text with the form of a name
pub judged : (text : List ℕ) (first last : ℕ) (found : Option (ℕ × ℕ)) → first < 10 ^ 19 → last < 10 ^ 19 → text ≡ segment_file_name first last
    → SomeIff found ((1 ≤ first) × (first ≤ last) × (last < 2 ^ 63)) (first, last) → found ≡ txids_of text
judged text first last None f l spelled outside = sym (none (txids_of text) refl)
  where
    none : (o : Option (ℕ × ℕ)) → txids_of text ≡ o → txids_of text ≡ None
    none None e = e
    none (Some p) e =
        let is = named text p.0 p.1 e in
        let same : txids_of text ≡ cond (leb 1 first && leb first last && ltb last (2 ^ 63)) (Some (first, last)) None = ap txids_of spelled ∙ read-name first last f l in
        let found = cond_some _ (first, last) p (sym same ∙ e) in
        let numbers = and_parts _ _ found.0 in
        let order = and_parts _ _ numbers.0 in
        absurd (outside (leb-true 1 first order.0, leb-true first last order.1, ltb-true last (2 ^ 63) numbers.1))
judged text first last (Some p) f l spelled inside =
    ap Some inside.1 ∙ sym (names text first last (record { from_one = inside.0.0; in_order = inside.0.1; in_range = inside.0.2; spelled = spelled }))

-- ---- the form of a name, part by part

pub is_head : (text : List ℕ) (r : Bool) → r ≡ starts_with ◌==◌ text head_text → (r ≡ true → text ≡ head_text ++ drop 6 text) × ((rest : List ℕ) → text ≡ head_text ++ rest → r ≡ true)
is_head text r is = starts_is Decides-eqb text head_text r is

pub headless : (text : List ℕ) (r : Bool) → r ≡ starts_with ◌==◌ text head_text → r ≡ false → (first last : ℕ) → text ≢ segment_file_name first last
headless text r is none first last e =
    both_ways r none ((is_head text r is).1 (digits 19 first ++ (dash ++ digits 19 last)) (e ∙ parts first last))

pub dash_at : (text : List ℕ) (first last : ℕ) → text ≡ segment_file_name first last → get_or text 25 0 ≡ 45
dash_at text first last e =
    let prefix = head_text ++ digits 19 first in
    let whole : segment_file_name first last ≡ prefix ++ 45 ∷ digits 19 last = before_last first last ∙ append_assoc prefix dash (digits 19 last) in
    ap (λ t. get_or t 25 0) (e ∙ whole)
    ∙ get_or_at prefix 45 (digits 19 last) 0 25 (length-append head_text (digits 19 first) ∙ omega (arith, length-digits 19 first))

-- the parts of a text that has each of them
pub joined : (text : List ℕ) (first last : ℕ) → length text ≡ 45 → text ≡ head_text ++ drop 6 text → get_or text 25 0 ≡ 45
    → digits 19 first ≡ take 19 (drop 6 text) → digits 19 last ≡ drop 26 text → text ≡ segment_file_name first last
joined text first last size head middle one other =
    let after : drop 25 text ≡ dash ++ digits 19 last = drop_more text 25 0 (omega (arith, size)) ∙ ap (λ b. b ∷ drop 26 text) middle ∙ ap (λ t. 45 ∷ t) (sym other) in
    let tail : drop 6 text ≡ digits 19 first ++ (dash ++ digits 19 last) =
    sym (take-append-drop 19 (drop 6 text)) ∙ ap (λ t. t ++ drop 19 (drop 6 text)) (sym one) ∙ ap (λ t. digits 19 first ++ t) (drop-drop 19 6 text ∙ after) in
    head ∙ ap (λ t. head_text ++ t) tail ∙ sym (parts first last)

pub if_found : (text : List ℕ) (found : Option (ℕ × ℕ)) → found ≡ txids_of text → IfSome found (λ p. IsNameOf text p.0 p.1)
if_found text None e = tt
if_found text (Some p) e = named text p.0 p.1 (sym e)

-- ---- how a name is written

-- a number with zeros before it, as a hole of width 19 writes it
abbrev pub hole : ℕ → List ℕ
hole n = padded_integral (format_spec 32 0 4 19 18446744073709551615) false [] (decimal n)

bare : (m : ℕ) (ds : List ℕ) → replicate (m - 0 - 0) 48 ++ (ds ++ []) ≡ replicate m 48 ++ ds
bare m ds = ap (λ k. replicate {A = ℕ} k 48 ++ (ds ++ [])) (let same : m - 0 - 0 ≡ m = omega arith in same) ∙ ap (λ t. replicate {A = ℕ} m 48 ++ t) (append-nil ds)

filled : (n : ℕ) → n < 2 ^ 63 → hole n ≡ digits 19 n
unfolding padded_integral char_count
filled n small = bare (19 - length (decimal n)) (decimal n) ∙ sym (digits_padded 18 n (below n small) (omega arith))

pub written : (first last : ℕ) → first < 2 ^ 63 → last < 2 ^ 63 → head_text ++ (hole first ++ 45 ∷ hole last) ≡ segment_file_name first last
written first last f l =
    ap (λ ds. head_text ++ (ds ++ 45 ∷ hole last)) (filled first f)
    ∙ ap (λ ds. head_text ++ (digits 19 first ++ 45 ∷ ds)) (filled last l)
    ∙ sym (parts first last)

pub written_ok : {A E : Type 0} (bytes : A → List ℕ) (r : Result A E) (text name : List ℕ) → text ≡ name → IfOk r (λ s. bytes s ≡ text) → IfOk r (λ s. bytes s ≡ name)
written_ok bytes (Ok s) text name same h = h ∙ same
written_ok bytes (Err e) text name same h = tt
