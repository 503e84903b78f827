use Rattle.std.proofs.Common.{◌≡◌, ◌-◌, length, Some, refl, sym, ap, ◌∙◌, arith}
use Rattle.json.specs.Json.{read_key, value}
use Rattle.json.proofs.Grammar.{read_key-shorter}
use Rattle.serde_json.specs.Data.{array, no_members, put}
use Rattle.nn_plain.specs.Ahead.{data_at}
use Rattle.nn_plain.proofs.Turns.{member_read, members_over}
use Rattle.nn_plain.proofs.line.plain_members.Goals as goal

pub members-init : goal.members-init
members-init g c = (length c.args.tokens.now, no_members, omega arith, refl, c.requires)

pub returns-in_default-key : goal.returns-in_default-key
returns-in_default-key g c =
    let rest = c.members.invariant in
    λ _. (rest.1, rest.3 ∙ members_over (value 126) rest.1 rest.0 c.members.tokens c.next_key.new.self rest.2 (grind arith), rest.4)

pub members-preserved : goal.members-preserved
members-preserved g c =
    let rest = c.members.invariant in
    let n = rest.0 in
    let found = rest.1 in
    let k = c.in-Some-key.key.text.now in
    let s = c.next_key.new.self in
    let named : read_key c.members.tokens ≡ Some (Some k, s) = grind arith in
    let done = c.if-not-put_scalar.ensures refl in
    let d = done.0 in
    let less = read_key-shorter c.members.tokens (Some k) s named in (
      n - 1,
      put k d found,
      omega (arith, rest.2, less, done.2),
      rest.3 ∙ member_read (value 126) found n k c.members.tokens s c.put_scalar.new.tokens d (omega (arith, rest.2, less)) named (done.1 126),
      done.3 k found c.slot-slot.ensures rest.4,
    )

pub members-preserved-then-next_byte-eq91 : goal.members-preserved-then-next_byte-eq91
members-preserved-then-next_byte-eq91 g c =
    let rest = c.members.invariant in
    let n = rest.0 in
    let found = rest.1 in
    let k = c.in-Some-key.key.text.now in
    let s = c.next_key.new.self in
    let named : read_key c.members.tokens ≡ Some (Some k, s) = grind arith in
    let done = c.in-Some-plain_blocks.ensures in
    let ds = done.ok.0 in
    let same : c.again-inner.result ≡ s = c.again-inner.ensures in
    let read = ap (data_at 126) (sym same) ∙ done.ok.1 in
    let less = read_key-shorter c.members.tokens (Some k) s named in (
      n - 1,
      put k (array ds) found,
      omega (arith, rest.2, less, done.shorter, ap length same),
      rest.3 ∙ member_read (value 126) found n k c.members.tokens s c.plain_blocks.new.tokens (array ds) (omega (arith, rest.2, less)) named read,
      c.put_array.ensures k found ds c.slot-slot.ensures done.ok.2 rest.4,
    )
