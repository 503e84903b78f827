use Rattle.std.proofs.Common.{◌≡◌, ◌-◌, length, codes, Some, refl, sym, ◌∙◌, arith}
use Rattle.json.specs.Json.{read_key, value}
use Rattle.json.proofs.Grammar.{read_key-shorter}
use Rattle.serde_json.specs.Data.{no_members, put}
use Rattle.nn_plain.proofs.BlockItems.{kept}
use Rattle.nn_plain.proofs.Turns.{member_read, members_over}
use Rattle.nn_plain.proofs.blocks.plain_numbers.Goals as goal

pub members-init : goal.members-init
members-init c = record { rest = (length c.args.tokens.now, no_members, omega arith, refl, refl, refl, refl); left = omega arith }

pub members-preserved : goal.members-preserved
members-preserved c =
    let rest = c.members.invariant.rest in
    let n = rest.0 in
    let found = rest.1 in
    let k = c.in-Some-key.key.text.now in
    let s = c.next_key.new.self in
    let named : read_key c.members.tokens ≡ Some (Some k, s) = grind arith in
    let done = c.in-Some-plain_scalar.ensures in
    let d = done.0 in
    let number = c.number.ensures d done.2 in
    let less = read_key-shorter c.members.tokens (Some k) s named in
    let old = c.members.numbers in
    record {
      rest = (
        n - 1,
        put k d found,
        omega (arith, rest.2, less, done.3),
        rest.3 ∙ member_read (value 124) found n k c.members.tokens s c.plain_scalar.new.tokens d (omega (arith, rest.2, less)) named (done.1 124),
        kept (codes "id") k d found _ _ old.id c.put.ensures.id number rest.4,
        kept (codes "gen") k d found _ _ old.stamp c.put.ensures.stamp number rest.5,
        kept (codes "len") k d found _ _ old.len c.put.ensures.len number rest.6,
      );
      left = omega (arith, c.members.invariant.left, less, done.3);
    }

pub returns-in_default-key-clause-ok : goal.returns-in_default-key-clause-ok
returns-in_default-key-clause-ok c =
    let rest = c.members.invariant.rest in
    let found = c.in_ok-block.ensures in (
      rest.1,
      rest.3 ∙ members_over (value 124) rest.1 rest.0 c.members.tokens c.next_key.new.self rest.2 (grind arith),
      record { members = rest.1; is_object = refl; id = sym rest.4 ∙ found.id; stamp = sym rest.5 ∙ found.stamp; len = sym rest.6 ∙ found.len },
    )
