use Rattle.std.proofs.Common.{◌≡◌, [], ◌∷◌, length, false, refl, ap, ◌∙◌, arith}
use Rattle.json.specs.Json.{parse_map}
use Rattle.json.specs.Reads.{token_of}
use Rattle.json.specs.Token.{Token}
use Rattle.serde_json.specs.Data.{array}
use Rattle.nn_plain.specs.Ahead.{data_at}
use Rattle.nn_plain.proofs.FirstValue.{none_ahead, array_ahead}
use Rattle.nn_plain.proofs.Steps.{is_open_bracket, no_deeper_array, no_array}
use Rattle.nn_plain.proofs.object.read_array.Goals as goal

pub returns-in_err-token-clause-err : goal.returns-in_err-token-clause-err
returns-in_err-token-clause-err g c =
    let empty : c.args.reader.now ≡ [] = grind arith in
    λ _. ap (data_at c.args.depth) empty ∙ none_ahead c.args.depth

pub returns-in_err-_other-clause-err : goal.returns-in_err-_other-clause-err
returns-in_err-_other-clause-err g c =
    let first : c.args.reader.now ≡ token_of c.in_ok-token.token ∷ c.next.new.self = grind arith in
    λ _. ap (data_at c.args.depth) first ∙ c.in_err-_other.ensures.err

pub returns-in_default : goal.returns-in_default
returns-in_default g c =
    let t = c.in_ok-token.token in
    let first : c.args.reader.now ≡ token_of t ∷ c.next.new.self = grind arith in
    let done = c.in_ok-_other.ensures in
    let other : is_open_bracket (token_of t) ≡ false = grind arith in
    record {
      ok = (done.ok.0, ap (data_at c.args.depth) first ∙ done.ok.1, no_array c.args.depth (token_of t) c.next.new.self done.ok.0 c.read_from.new.reader other done.ok.1);
      shorter = omega (arith, done.shorter, ap length first);
      err = λ never. absurd (cc);
    }

pub returns-then-depth-eq0-clause-err : goal.returns-then-depth-eq0-clause-err
returns-then-depth-eq0-clause-err g c =
    let none : c.args.depth ≡ 0 = omega arith in
    let first : c.args.reader.now ≡ token_of c.in_ok-token.token ∷ c.next.new.self = grind arith in
    λ _. ap (data_at c.args.depth) (first ∙ ap (λ k. token_of k ∷ c.next.new.self) c.in-BeginArray.is) ∙ ap (λ n. data_at n (Token.begin_array ∷ c.next.new.self)) none ∙ no_deeper_array c.next.new.self

pub returns-in_err-read_items-clause-err : goal.returns-in_err-read_items-clause-err
returns-in_err-read_items-clause-err g c =
    let ts = c.next.new.self in
    let first : c.args.reader.now ≡ token_of c.in_ok-token.token ∷ ts = grind arith in
    let opened = ap (data_at c.args.depth) (first ∙ ap (λ k. token_of k ∷ ts) c.in-BeginArray.is) ∙ array_ahead c.args.depth ts (omega arith) in
    λ is. opened ∙ ap (parse_map array) (c.in_err-read_items.ensures.err (grind arith))

pub returns-clause-ok : goal.returns-clause-ok
returns-clause-ok g c =
    let ts = c.next.new.self in
    let first : c.args.reader.now ≡ token_of c.in_ok-token.token ∷ ts = grind arith in
    let opened = ap (data_at c.args.depth) (first ∙ ap (λ k. token_of k ∷ ts) c.in-BeginArray.is) ∙ array_ahead c.args.depth ts (omega arith) in
    let found = c.in_ok-read_items.ensures.ok in
    (array found.0, opened ∙ ap (parse_map array) found.1, (found.0, refl, found.2))
