-- What stands next, by the first token.
use Rattle.std.proofs.Common.{◌≡◌, ℕ, zero, suc, ◌-◌, List, ◌∷◌, length, Bool, true, false, Option, Some, None, option_map, Result, Ok, Err, IfOk, OnErr, refl, sym, ap, ◌∙◌, arith}
use Rattle.std.specs.Option.{ok_or}
use Rattle.json.specs.Token.{Token}
use Rattle.json.specs.Json.{parse_map, value}
use Rattle.json.proofs.Grammar.{value_is}
use Rattle.serde_json.specs.Data.{Data, Num, null, boolean, number, string, array, object, Items, Members, no_members}
use Rattle.serde_json.specs.Find.{as_array, as_object}
use Rattle.serde_json.specs.Read.{of_json, number_of, converted}
use Rattle.nn_plain.specs.Ahead.{data_at, items_at, members_at}
use Rattle.nn_plain.specs.Spelling.{plain_num, plain_of, spelled_or}
use Rattle.nn_plain.specs.declared.value.Plain.{Plain}
use Rattle.nn_plain.proofs.FirstValue.{string_ahead, bool_ahead, null_ahead, number_ahead, array_ahead, object_ahead}

pub on_any_err : {T E : Type 0} {P : Type 0} (r : Result T E) → P → OnErr r P
on_any_err (Ok x) p = tt
on_any_err (Err e) p = p

pub no_deeper_array : (ts : List Token) → data_at 0 (Token.begin_array ∷ ts) ≡ None
unfolding value
no_deeper_array ts = refl

pub no_deeper_object : (ts : List Token) → data_at 0 (Token.begin_object ∷ ts) ≡ None
unfolding value
no_deeper_object ts = refl

-- ---- numbers

abbrev Finds : {E : Type 0} → ℕ → List Token → List Token → Result (Option Plain) E → Type 0
Finds depth old new r = IfOk r (λ v. (d : Data) × (data_at depth old ≡ Some (d, new)) × (spelled_or v ≡ plain_of d))

number_at : {E : Type 0} (o : Option Num) (r : Option (Option Plain)) (e : E) (depth : ℕ) (s : List ℕ) (ts : List Token) → number_of s ≡ o → option_map spelled_or r ≡ option_map plain_num o
    → Finds depth (Token.number s ∷ ts) ts (ok_or r e) × OnErr (ok_or r e) (data_at depth (Token.number s ∷ ts) ≡ None)
number_at None None e depth s ts is h = (tt, number_ahead depth s ts ∙ rw is refl)
number_at None (Some v) e depth s ts is h = absurd (cc)
number_at (Some n) None e depth s ts is h = absurd (cc)
number_at (Some n) (Some v) e depth s ts is h = ((number n, number_ahead depth s ts ∙ rw is refl, cc), tt)

pub number_found : {E : Type 0} (r : Option (Option Plain)) (e : E) (depth : ℕ) (s : List ℕ) (ts : List Token) → option_map spelled_or r ≡ option_map plain_num (number_of s)
    → Finds depth (Token.number s ∷ ts) ts (ok_or r e) × OnErr (ok_or r e) (data_at depth (Token.number s ∷ ts) ≡ None)
number_found r e depth s ts h = number_at (number_of s) r e depth s ts refl h

-- ---- what a value is by its first token

abbrev pick : Data → Option (Data × List Token) → Data
pick d None = d
pick d (Some p) = p.0

first_of : (a b : Data) (r s : List Token) → ◌≡◌ {A = Option (Data × List Token)} (Some (a, r)) (Some (b, s)) → a ≡ b
first_of a b r s e = ap (pick a) e

mapped_array : (x : Option (Items × List Token)) (d : Data) (r : List Token) → parse_map array x ≡ Some (d, r) → as_object d ≡ None
mapped_array None d r e = absurd (cc)
mapped_array (Some p) d r e = ap as_object (sym (first_of (array p.0) d p.1 r e))

mapped_object : (x : Option (Members × List Token)) (d : Data) (r : List Token) → parse_map object x ≡ Some (d, r) → as_array d ≡ None
mapped_object None d r e = absurd (cc)
mapped_object (Some p) d r e = ap as_array (sym (first_of (object p.0) d p.1 r e))

numbered : {A : Type 0} (f : Data → Option A) → ((n : Num) → f (number n) ≡ None) → (x : Option Num) (d : Data) (ts r : List Token) → option_map {U = Data × List Token} (λ b. (b, ts)) (option_map number x) ≡ Some (d, r) → f d ≡ None
numbered f h None d ts r e = absurd (cc)
numbered f h (Some n) d ts r e = ap f (sym (first_of (number n) d ts r e)) ∙ h n

refused_here : {P : Type 0} (depth : ℕ) (ts : List Token) (d : Data) (r : List Token) → data_at depth ts ≡ None → data_at depth ts ≡ Some (d, r) → P
refused_here depth ts d r e f = absurd (cc)

abbrev pub is_open_brace : Token → Bool
is_open_brace Token.begin_object = true
is_open_brace Token.end_object = false
is_open_brace Token.begin_array = false
is_open_brace Token.end_array = false
is_open_brace (Token.key s) = false
is_open_brace (Token.string s) = false
is_open_brace (Token.number s) = false
is_open_brace (Token.boolean b) = false
is_open_brace Token.null = false
is_open_brace Token.bad = false

abbrev pub is_open_bracket : Token → Bool
is_open_bracket Token.begin_object = false
is_open_bracket Token.end_object = false
is_open_bracket Token.begin_array = true
is_open_bracket Token.end_array = false
is_open_bracket (Token.key s) = false
is_open_bracket (Token.string s) = false
is_open_bracket (Token.number s) = false
is_open_bracket (Token.boolean b) = false
is_open_bracket Token.null = false
is_open_bracket Token.bad = false

bracket_first : (depth : ℕ) (ts : List Token) (d : Data) (r : List Token) → data_at depth (Token.begin_array ∷ ts) ≡ Some (d, r) → as_object d ≡ None
bracket_first zero ts d r e = refused_here 0 (Token.begin_array ∷ ts) d r (no_deeper_array ts) e
bracket_first (suc n) ts d r e = mapped_array (items_at (suc n - 1) (length ts) ts) d r (sym (array_ahead (suc n) ts (omega arith)) ∙ e)

brace_first : (depth : ℕ) (ts : List Token) (d : Data) (r : List Token) → data_at depth (Token.begin_object ∷ ts) ≡ Some (d, r) → as_array d ≡ None
brace_first zero ts d r e = refused_here 0 (Token.begin_object ∷ ts) d r (no_deeper_object ts) e
brace_first (suc n) ts d r e = mapped_object (members_at (suc n - 1) (length ts) no_members ts) d r (sym (object_ahead (suc n) ts (omega arith)) ∙ e)

pub no_object : (depth : ℕ) (t : Token) (ts : List Token) (d : Data) (r : List Token) → is_open_brace t ≡ false → data_at depth (t ∷ ts) ≡ Some (d, r) → as_object d ≡ None
no_object depth Token.begin_object ts d r h e = absurd (cc)
no_object depth Token.end_object ts d r h e = refused_here depth (Token.end_object ∷ ts) d r (ap (converted of_json) (value_is depth (Token.end_object ∷ ts))) e
no_object depth Token.begin_array ts d r h e = bracket_first depth ts d r e
no_object depth Token.end_array ts d r h e = refused_here depth (Token.end_array ∷ ts) d r (ap (converted of_json) (value_is depth (Token.end_array ∷ ts))) e
no_object depth (Token.key s) ts d r h e = refused_here depth (Token.key s ∷ ts) d r (ap (converted of_json) (value_is depth (Token.key s ∷ ts))) e
no_object depth (Token.string s) ts d r h e = ap as_object (sym (first_of (string s) d ts r (sym (string_ahead depth s ts) ∙ e)))
no_object depth (Token.number s) ts d r h e = numbered as_object (λ n. refl) (number_of s) d ts r (sym (number_ahead depth s ts) ∙ e)
no_object depth (Token.boolean b) ts d r h e = ap as_object (sym (first_of (boolean b) d ts r (sym (bool_ahead depth b ts) ∙ e)))
no_object depth Token.null ts d r h e = ap as_object (sym (first_of null d ts r (sym (null_ahead depth ts) ∙ e)))
no_object depth Token.bad ts d r h e = refused_here depth (Token.bad ∷ ts) d r (ap (converted of_json) (value_is depth (Token.bad ∷ ts))) e

pub no_array : (depth : ℕ) (t : Token) (ts : List Token) (d : Data) (r : List Token) → is_open_bracket t ≡ false → data_at depth (t ∷ ts) ≡ Some (d, r) → as_array d ≡ None
no_array depth Token.begin_object ts d r h e = brace_first depth ts d r e
no_array depth Token.end_object ts d r h e = refused_here depth (Token.end_object ∷ ts) d r (ap (converted of_json) (value_is depth (Token.end_object ∷ ts))) e
no_array depth Token.begin_array ts d r h e = absurd (cc)
no_array depth Token.end_array ts d r h e = refused_here depth (Token.end_array ∷ ts) d r (ap (converted of_json) (value_is depth (Token.end_array ∷ ts))) e
no_array depth (Token.key s) ts d r h e = refused_here depth (Token.key s ∷ ts) d r (ap (converted of_json) (value_is depth (Token.key s ∷ ts))) e
no_array depth (Token.string s) ts d r h e = ap as_array (sym (first_of (string s) d ts r (sym (string_ahead depth s ts) ∙ e)))
no_array depth (Token.number s) ts d r h e = numbered as_array (λ n. refl) (number_of s) d ts r (sym (number_ahead depth s ts) ∙ e)
no_array depth (Token.boolean b) ts d r h e = ap as_array (sym (first_of (boolean b) d ts r (sym (bool_ahead depth b ts) ∙ e)))
no_array depth Token.null ts d r h e = ap as_array (sym (first_of null d ts r (sym (null_ahead depth ts) ∙ e)))
no_array depth Token.bad ts d r h e = refused_here depth (Token.bad ∷ ts) d r (ap (converted of_json) (value_is depth (Token.bad ∷ ts))) e

-- ---- results

pub ok_weaker : {X E : Type 0} {P Q : X → Type 0} (r : Result X E) → ((x : X) → P x → Q x) → IfOk r P → IfOk r Q
ok_weaker (Ok x) h p = h x p
ok_weaker (Err e) h p = tt

pub err_weaker : {X E : Type 0} {P Q : Type 0} (r : Result X E) → (P → Q) → OnErr r P → OnErr r Q
err_weaker (Ok x) h p = tt
err_weaker (Err e) h p = h p
