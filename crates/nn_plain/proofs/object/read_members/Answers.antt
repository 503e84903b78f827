use Rattle.std.proofs.Common.{◌≡◌, ◌-◌, length, Some, refl, ◌∙◌, arith}
use Rattle.json.specs.Json.{read_key, value}
use Rattle.json.proofs.Grammar.{read_key-shorter}
use Rattle.serde_json.specs.Data.{no_members, put}
use Rattle.nn_plain.proofs.Turns.{member_read, member_refused, key_refused, members_over}
use Rattle.nn_plain.proofs.object.read_members.Goals as goal

pub members-init : goal.members-init
members-init g c = record { rest = (length c.args.reader.now, no_members, omega arith, refl, c.requires); left = omega arith }

pub returns-in_err-key-clause-err : goal.returns-in_err-key-clause-err
returns-in_err-key-clause-err g c =
    let rest = c.members.invariant.rest in
    λ _. rest.3 ∙ key_refused (value c.args.depth) rest.1 rest.0 c.members.reader c.in_err-key.ensures.value

pub returns-in_err-read-clause-err : goal.returns-in_err-read-clause-err
returns-in_err-read-clause-err g c =
    let rest = c.members.invariant.rest in
    let k = c.in-Some.key.now in
    let s = c.next_key.new.self in
    let named : read_key c.members.reader ≡ Some (Some k, s) = grind arith in
    λ is. rest.3 ∙ member_refused (value c.args.depth) rest.1 rest.0 k c.members.reader s named (c.read.ensures.err (grind arith))

pub members-preserved : goal.members-preserved
members-preserved g c =
    let rest = c.members.invariant.rest in
    let n = rest.0 in
    let found = rest.1 in
    let k = c.in-Some.key.now in
    let s = c.next_key.new.self in
    let named : read_key c.members.reader ≡ Some (Some k, s) = grind arith in
    let done = c.in_ok-read.ensures in
    let d = done.ok.0 in
    let r = c.read.new.reader in
    let less = read_key-shorter c.members.reader (Some k) s named in
    let lesser = done.shorter in
    record {
      rest = (
        n - 1,
        put k d found,
        omega (arith, rest.2),
        rest.3 ∙ member_read (value c.args.depth) found n k c.members.reader s r d (omega (arith, rest.2)) named done.ok.1,
        done.ok.2 found rest.4,
      );
      left = omega (arith, c.members.invariant.left);
    }

pub returns-clause-ok : goal.returns-clause-ok
returns-clause-ok g c =
    let rest = c.members.invariant.rest in
    (rest.1, rest.3 ∙ members_over (value c.args.depth) rest.1 rest.0 c.members.reader c.next_key.new.self rest.2 (grind arith), rest.4)
