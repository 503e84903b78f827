use Rattle.std.proofs.Common.{◌≡◌, ◌-◌, ◌<◌, [], ◌∷◌, length, Some, None, refl, ap, ap₂, ◌∙◌, arith}
use Rattle.json.specs.Json.{parse_map, after_end_array, read_key, value}
use Rattle.json.specs.Reads.{token_of}
use Rattle.json.proofs.Grammar.{read_key-shorter, value_is}
use Rattle.serde_json.specs.Data.{null, boolean, string, array, object, no_items, item, no_members, put}
use Rattle.serde_json.specs.Read.{of_json, converted}
use Rattle.nn_plain.specs.Ahead.{data_at, LacksItems}
use Rattle.nn_plain.proofs.FirstValue.{none_ahead, string_ahead, bool_ahead, null_ahead, array_ahead, object_ahead}
use Rattle.nn_plain.proofs.Steps.{on_any_err, no_deeper_array, no_deeper_object, number_found}
use Rattle.nn_plain.proofs.Turns.{item_read, item_refused, items_over, member_read, member_refused, key_refused, members_over}
use Rattle.nn_plain.proofs.any.+read.Goals as goal

pub read_from-returns-then-depth-eq0-clause-err : goal.read_from-returns-then-depth-eq0-clause-err
read_from-returns-then-depth-eq0-clause-err t c =
    let none : c.args.depth ≡ 0 = omega arith in
    ap₂ (λ n k. data_at n (token_of k ∷ c.args.reader.now)) none c.in-BeginArray.is ∙ no_deeper_array c.args.reader.now

pub read_from-returns-then-depth-eq0-2-clause-err : goal.read_from-returns-then-depth-eq0-2-clause-err
read_from-returns-then-depth-eq0-2-clause-err t c =
    let none : c.args.depth ≡ 0 = omega arith in
    ap₂ (λ n k. data_at n (token_of k ∷ c.args.reader.now)) none c.in-BeginObject.is ∙ no_deeper_object c.args.reader.now

pub read_from-returns-in_err-skip_items-in-BeginArray-clause-err : goal.read_from-returns-in_err-skip_items-in-BeginArray-clause-err
read_from-returns-in_err-skip_items-in-BeginArray-clause-err t c =
    let ts = c.args.reader.now in
    on_any_err _ (ap (λ k. data_at c.args.depth (token_of k ∷ ts)) c.in-BeginArray.is ∙ array_ahead c.args.depth ts (omega arith)
    ∙ ap (parse_map array) (c.in_err-skip_items-in-BeginArray.ensures.err (length ts) (omega arith)))

pub read_from-returns-in_err-skip_members-in-BeginObject-clause-err : goal.read_from-returns-in_err-skip_members-in-BeginObject-clause-err
read_from-returns-in_err-skip_members-in-BeginObject-clause-err t c =
    let ts = c.args.reader.now in
    on_any_err _ (ap (λ k. data_at c.args.depth (token_of k ∷ ts)) c.in-BeginObject.is ∙ object_ahead c.args.depth ts (omega arith)
    ∙ ap (parse_map object) c.in_err-skip_members-in-BeginObject.ensures.err)

pub read_from-returns-in-String-clause-ok : goal.read_from-returns-in-String-clause-ok
read_from-returns-in-String-clause-ok t c =
    let ts = c.args.reader.now in
    (string c.in-String.text.now, ap (λ k. data_at c.args.depth (token_of k ∷ ts)) c.in-String.is ∙ string_ahead c.args.depth c.in-String.text.now ts, refl)

pub read_from-returns-in-Number-clause-ok : goal.read_from-returns-in-Number-clause-ok
read_from-returns-in-Number-clause-ok t c =
    let ts = c.args.reader.now in
    rw (c.in-Number.is, c.ok_or.ensures.value) (number_found c.number_of.result _ c.args.depth c.in-Number.text.now ts c.number_of.ensures).0

pub read_from-returns-in-Number-clause-err : goal.read_from-returns-in-Number-clause-err
read_from-returns-in-Number-clause-err t c =
    let ts = c.args.reader.now in
    rw (c.in-Number.is, c.ok_or.ensures.value) (number_found c.number_of.result _ c.args.depth c.in-Number.text.now ts c.number_of.ensures).1

pub read_from-returns-in-Bool-clause-ok : goal.read_from-returns-in-Bool-clause-ok
read_from-returns-in-Bool-clause-ok t c =
    let ts = c.args.reader.now in
    (boolean c.in-Bool.truth, ap (λ k. data_at c.args.depth (token_of k ∷ ts)) c.in-Bool.is ∙ bool_ahead c.args.depth c.in-Bool.truth ts, refl)

pub read_from-returns-in-Null-clause-ok : goal.read_from-returns-in-Null-clause-ok
read_from-returns-in-Null-clause-ok t c =
    let ts = c.args.reader.now in
    (null, ap (λ k. data_at c.args.depth (token_of k ∷ ts)) c.in-Null.is ∙ null_ahead c.args.depth ts, refl)

pub read_from-returns-in-EndObject-clause-err : goal.read_from-returns-in-EndObject-clause-err
read_from-returns-in-EndObject-clause-err t c =
    let ts = c.args.reader.now in
    let none : value c.args.depth (token_of c.args.token ∷ ts) ≡ None = rw (value_is c.args.depth (token_of c.args.token ∷ ts)) (grind arith) in
    ap (converted of_json) none

pub read_from-returns-in_ok-skip_items-in-BeginArray-clause-ok : goal.read_from-returns-in_ok-skip_items-in-BeginArray-clause-ok
read_from-returns-in_ok-skip_items-in-BeginArray-clause-ok t c =
    let ts = c.args.reader.now in
    let found = c.in_ok-skip_items-in-BeginArray.ensures.ok (length ts) (omega arith) in
    (array found.0, ap (λ k. data_at c.args.depth (token_of k ∷ ts)) c.in-BeginArray.is ∙ array_ahead c.args.depth ts (omega arith) ∙ ap (parse_map array) found.1, refl)

pub read_from-returns-in_ok-skip_members-in-BeginObject-clause-ok : goal.read_from-returns-in_ok-skip_members-in-BeginObject-clause-ok
read_from-returns-in_ok-skip_members-in-BeginObject-clause-ok t c =
    let ts = c.args.reader.now in
    let found = c.in_ok-skip_members-in-BeginObject.ensures.ok in
    (object found.0, ap (λ k. data_at c.args.depth (token_of k ∷ ts)) c.in-BeginObject.is ∙ object_ahead c.args.depth ts (omega arith) ∙ ap (parse_map object) found.1, refl)

pub read_value-returns-in_err-token-clause-err : goal.read_value-returns-in_err-token-clause-err
read_value-returns-in_err-token-clause-err t c =
    let empty : c.args.reader.now ≡ [] = grind arith in
    on_any_err _ (ap (data_at c.args.depth) empty ∙ none_ahead c.args.depth)

pub skip_items-returns-in_err-_item-clause-err : goal.skip_items-returns-in_err-_item-clause-err
skip_items-returns-in_err-_item-clause-err t c =
    let ts = c.items.reader in
    let going : (after_end_array ts ≡ None) × (c.take_end_array.new.self ≡ ts) = grind arith in
    let none : LacksItems c.args.depth c.args.reader.now = λ m le. let rest = c.items.invariant.rest m le in rest.3 (item_refused (value c.args.depth) rest.0 ts going.0 (rw (← going.1) c.in_err-_item.ensures.err)) in
    on_any_err _ none

pub skip_items-items-preserved : goal.skip_items-items-preserved
skip_items-items-preserved t c =
    let ts = c.items.reader in
    let going : (after_end_array ts ≡ None) × (c.take_end_array.new.self ≡ ts) = grind arith in
    let done = c.in_ok-_item.ensures in
    let d = done.ok.0 in
    let r = c.read_value.new.reader in
    let less : length r < length ts = rw (← going.1) done.shorter in
    record {
      rest = λ m le.
          let rest = c.items.invariant.rest m le in
          let turn = item_read (value c.args.depth) rest.0 ts r d (omega (arith, rest.1)) going.0 (rw (← going.1) done.ok.1) in
          (rest.0 - 1, omega (arith, rest.1, less), λ ds after e. rest.2 (item d ds) after (turn ∙ ap (parse_map (item d)) e), λ e. rest.3 (turn ∙ ap (parse_map (item d)) e));
      left = omega (arith, c.items.invariant.left, less);
    }

pub skip_items-returns-clause-ok : goal.skip_items-returns-clause-ok
skip_items-returns-clause-ok t c =
    let ts = c.items.reader in
    λ m le. let rest = c.items.invariant.rest m le in rest.2 no_items c.take_end_array.new.self (items_over (value c.args.depth) rest.0 ts c.take_end_array.new.self rest.1 (grind arith))

pub skip_members-members-init : goal.skip_members-members-init
skip_members-members-init t c = record { rest = (length c.args.reader.now, no_members, omega arith, refl); left = omega arith }

pub skip_members-returns-in_err-_key-clause-err : goal.skip_members-returns-in_err-_key-clause-err
skip_members-returns-in_err-_key-clause-err t c =
    let rest = c.members.invariant.rest in
    on_any_err _ (rest.3 ∙ key_refused (value c.args.depth) rest.1 rest.0 c.members.reader c.in_err-_key.ensures.value)

pub skip_members-returns-in_err-_member-clause-err : goal.skip_members-returns-in_err-_member-clause-err
skip_members-returns-in_err-_member-clause-err t c =
    let rest = c.members.invariant.rest in
    let k = c.in-Some._key.now in
    let s = c.next_key.new.self in
    let named : read_key c.members.reader ≡ Some (Some k, s) = grind arith in
    on_any_err _ (rest.3 ∙ member_refused (value c.args.depth) rest.1 rest.0 k c.members.reader s named c.in_err-_member.ensures.err)

pub skip_members-members-preserved : goal.skip_members-members-preserved
skip_members-members-preserved t c =
    let rest = c.members.invariant.rest in
    let n = rest.0 in
    let k = c.in-Some._key.now in
    let s = c.next_key.new.self in
    let named : read_key c.members.reader ≡ Some (Some k, s) = grind arith in
    let done = c.in_ok-_member.ensures in
    let d = done.ok.0 in
    let r = c.read_value.new.reader in
    let less = read_key-shorter c.members.reader (Some k) s named in
    let lesser = done.shorter in
    record {
      rest = (n - 1, put k d rest.1, omega (arith, rest.2), rest.3 ∙ member_read (value c.args.depth) rest.1 n k c.members.reader s r d (omega (arith, rest.2)) named done.ok.1);
      left = omega (arith, c.members.invariant.left);
    }

pub skip_members-returns-clause-ok : goal.skip_members-returns-clause-ok
skip_members-returns-clause-ok t c =
    let rest = c.members.invariant.rest in
    (rest.1, rest.3 ∙ members_over (value c.args.depth) rest.1 rest.0 c.members.reader c.next_key.new.self rest.2 (grind arith))
