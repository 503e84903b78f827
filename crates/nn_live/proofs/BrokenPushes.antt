-- Where the code could not go on with some bytes, a line of them was not taken.
use Rattle.std.proofs.Common.{◌≡◌, ℕ, true, List, [], ◌∷◌, ◌++◌, refl, sym, subst, ap, ◌∙◌, append_assoc, append-nil}
use Rattle.nn_bytes.specs.Lines.{line_feed}
use Rattle.nn_bytes.proofs.PieceLemmas.{unbroken_both}
use Rattle.nn_bytes.specs.Pieces.{is_unbroken, pieces}
use Rattle.nn_input.specs.Cut.{TornBytes}
use Rattle.nn_live.specs.Live.{LiveSetup, ServiceState, Stage, serving, takes, written_of}
use Rattle.nn_live.specs.Serving.{Breaks, Service}
use Rattle.nn_live.specs.Taking.{BreaksPush, HasTorn, Live, Pushes, TakenAllBut, stage_after}
use Rattle.nn_live.proofs.Breaking.{nothing_first}
use Rattle.nn_live.proofs.Cutting.{ended, line_goes_on}
use Rattle.nn_live.proofs.Growing.{pieces_grow}

-- what the lines of these bytes make it write
abbrev written_behind : Stage × List ℕ → List ℕ
written_behind x = written_of x.0

-- a line feed is not nothing
pub some_line : (text : List ℕ) → text ++ line_feed ∷ [] ≡ [] → ⊥
some_line [] e = absurd (cc)
some_line (x ∷ text) e = absurd (cc)

module _ (asked : LiveSetup) (s : ServiceState) (torn : List ℕ) where
  abbrev says : List ℕ → List ℕ
  says some = written_behind (stage_after asked s (torn ++ some))

  -- before a line feed it says nothing more
  says_nothing : is_unbroken torn ≡ true → says [] ≡ s.written
  says_nothing unbroken = ap (λ t. written_behind (stage_after asked s t)) (append-nil torn) ∙ ap written_behind (ended asked s torn unbroken)

-- nothing was told
pub nothing_pushed : (bytes : List ℕ) (old : Live) → (bytes ≡ [] → ⊥) → BreaksPush bytes old []
nothing_pushed bytes old some asked s torn at there =
    let none = says_nothing asked s torn there.unbroken in
    let grown = pieces_grow asked (pieces (torn ++ bytes)) s in
    record {
      taken = [];
      left = bytes;
      are = refl;
      some = some;
      part = [];
      begins = ap (λ w. w ++ []) (sym none);
      cut = record { rest = grown.0; is = grown.1 ∙ ap (λ w. w ++ grown.0) (sym none ∙ sym (append-nil (says asked s torn []))); short = λ empty. refl };
    }

-- of a line some was told
pub line_broke : (text told : List ℕ) (old : Live) → is_unbroken text ≡ true → ((torn : List ℕ) → HasTorn torn old.torn → Breaks (λ asked s. takes asked (torn ++ text) s) old.service told)
    → BreaksPush (text ++ line_feed ∷ []) old told
line_broke text told old whole broke asked s torn at there =
    let taken = takes asked (torn ++ text) s in
    let is : stage_after asked s (torn ++ (text ++ line_feed ∷ [])) ≡ (serving taken, []) =
    ap (stage_after asked s) (sym (append_assoc torn text (line_feed ∷ []))) ∙ line_goes_on asked s (torn ++ text) [] (unbroken_both torn text there.unbroken whole) ∙ ended asked taken [] refl in
    let none = says_nothing asked s torn there.unbroken in
    let cut = broke torn there asked s at in
    record {
      taken = [];
      left = text ++ line_feed ∷ [];
      are = refl;
      some = some_line text;
      part = told;
      begins = ap (λ w. w ++ told) (sym none);
      cut = record { rest = cut.rest; is = ap written_behind is ∙ cut.is ∙ ap (λ w. (w ++ told) ++ cut.rest) (sym none); short = cut.short };
    }

-- of a line of which nothing was kept before
pub alone_broke : (text told : List ℕ) (x : Service) (left : TornBytes) → is_unbroken text ≡ true → ((torn : List ℕ) → HasTorn torn left → torn ≡ []) → Breaks (λ asked s. takes asked text s) x told
    → BreaksPush (text ++ line_feed ∷ []) (record { service = x; torn = left }) told
alone_broke text told x left whole none broke = line_broke text told (record { service = x; torn = left }) whole
    (λ torn there. subst (λ t. Breaks (λ asked s. takes asked (t ++ text) s) x told) (sym (none torn there)) broke)

-- behind bytes that were taken
module _ (asked : LiveSetup) (s : ServiceState) (torn prefix told : List ℕ) (x : Live) (a : TakenAllBut asked s (torn ++ prefix) [] told x) where
  then_stage : (more : List ℕ) → stage_after asked s (torn ++ (prefix ++ more)) ≡ stage_after asked a.now (a.torn ++ more)
  then_stage more = ap (stage_after asked s) (sym (append_assoc torn prefix more)) ∙ a.same more

  then_says : (more : List ℕ) → says asked s torn (prefix ++ more) ≡ says asked a.now a.torn more
  then_says more = ap written_behind (then_stage more)

  says_prefix : says asked s torn prefix ≡ s.written ++ told
  says_prefix = ap (says asked s torn) (sym (append-nil prefix)) ∙ then_says [] ∙ says_nothing asked a.now a.torn a.has.unbroken ∙ a.written

-- what is left was not taken
pub rest_untaken : (bytes prefix rest told : List ℕ) (old mid : Live) → bytes ≡ prefix ++ rest → (rest ≡ [] → ⊥) → Pushes prefix old mid told → BreaksPush bytes old told
rest_untaken bytes prefix rest told old mid is some taken asked s torn at there =
    let a = taken asked s torn at there in
    let before = says_prefix asked s torn prefix told mid a in
    let grown = pieces_grow asked (pieces (a.torn ++ rest)) a.now in
    record {
      taken = prefix;
      left = rest;
      are = is;
      some = some;
      part = [];
      begins = sym (append-nil (says asked s torn prefix) ∙ before);
      cut = record {
        rest = grown.0;
        is = ap (says asked s torn) is ∙ then_says asked s torn prefix told mid a rest ∙ grown.1 ∙ ap (λ w. w ++ grown.0) (a.written ∙ sym before ∙ sym (append-nil (says asked s torn prefix)));
        short = λ empty. refl;
      };
    }

-- lines were taken, and the next one was not
pub then_line_broke : (bytes prefix text rest told more : List ℕ) (old mid : Live) → bytes ≡ prefix ++ ((text ++ line_feed ∷ []) ++ rest) → is_unbroken text ≡ true → Pushes prefix old mid told
    → BreaksPush (text ++ line_feed ∷ []) mid more → BreaksPush bytes old (told ++ more)
then_line_broke bytes prefix text rest told more old mid is whole taken broke asked s torn at there =
    let a = taken asked s torn at there in
    let line = text ++ line_feed ∷ [] in
    let b = broke asked a.now a.torn a.at a.has in
    let next = takes asked (a.torn ++ text) a.now in
    let unbroken = unbroken_both a.torn text a.has.unbroken whole in
    let one : stage_after asked a.now (a.torn ++ line) ≡ (serving next, []) =
    ap (stage_after asked a.now) (sym (append_assoc a.torn text (line_feed ∷ []))) ∙ line_goes_on asked a.now (a.torn ++ text) [] unbroken ∙ ended asked next [] refl in
    let all : stage_after asked a.now (a.torn ++ (line ++ rest)) ≡ stage_after asked next rest =
    ap (stage_after asked a.now) (ap (λ t. a.torn ++ t) (append_assoc text (line_feed ∷ []) rest) ∙ sym (append_assoc a.torn text (line_feed ∷ rest))) ∙ line_goes_on asked a.now (a.torn ++ text) rest unbroken in
    let grown = pieces_grow asked (pieces rest) next in
    let first : says asked s torn (prefix ++ b.taken) ≡ says asked a.now a.torn b.taken = then_says asked s torn prefix told mid a b.taken in
    let cut : next.written ≡ (says asked a.now a.torn b.taken ++ b.part) ++ b.cut.rest = sym (ap written_behind one) ∙ b.cut.is in
    record {
      taken = prefix ++ b.taken;
      left = b.left ++ rest;
      are = is ∙ ap (λ l. prefix ++ (l ++ rest)) b.are ∙ ap (λ l. prefix ++ l) (append_assoc b.taken b.left rest) ∙ sym (append_assoc prefix b.taken (b.left ++ rest));
      some = λ none. b.some (nothing_first b.left rest none);
      part = b.part;
      begins = sym (append_assoc s.written told more) ∙ ap (λ w. w ++ more) (sym a.written) ∙ b.begins ∙ ap (λ w. w ++ b.part) (sym first);
      cut = record {
        rest = b.cut.rest ++ grown.0;
        is = ap (says asked s torn) is ∙ then_says asked s torn prefix told mid a (line ++ rest) ∙ ap written_behind all ∙ grown.1 ∙ ap (λ w. w ++ grown.0) cut
            ∙ append_assoc (says asked a.now a.torn b.taken ++ b.part) b.cut.rest grown.0 ∙ ap (λ w. (w ++ b.part) ++ (b.cut.rest ++ grown.0)) (sym first);
        short = λ none. b.cut.short (nothing_first b.cut.rest grown.0 none);
      };
    }
