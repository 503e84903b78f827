-- An input that is cut into its lines as it comes.
use Rattle.std.proofs.Common.{◌≡◌, ℕ, flat_map, ◌+◌, ◌<◌, true, Result, Ok, Err, List, [], ◌∷◌, ◌++◌, length, length-drop, take, drop, get_or, refl, sym, subst, ap, ap₂, ◌∙◌, arith, append_assoc, append-nil, suc}
use Rattle.std.specs.Prelude.{OnErr, OnOk}
use Rattle.std.proofs.Math.Seq.{drop-cons}
use Rattle.std.proofs.lemmas.List.{nil_from_length, take-append-drop}
use Rattle.nn_bytes.specs.Lines.{line_feed}
use Rattle.nn_bytes.specs.Pieces.{is_unbroken}
use Rattle.nn_bytes.proofs.PieceLemmas.{cut_first, one_piece, some_piece, unbroken_both}
use Rattle.nn_input.specs.Cut.{KeepsFirst, TornBytes, no_bytes}
use Rattle.nn_types.specs.Limits.{max_line}
use Rattle.nn_live.specs.Live.{LiveSetup, ServiceState, Stage, ends, serving, takes, takes_end, takes_pieces, takes_torn, written_of}
use Rattle.nn_live.specs.Serving.{Service, IsAtService, FollowsStep}
use Rattle.nn_live.specs.Taking.{Live, HasTorn, stage_after, Comes, MayBeCut, TakesBytes, Pushes, EndsInput}

-- a line of several is taken, and the others follow
one_taken : (asked : LiveSetup) (line p : List ℕ) (ps : List (List ℕ)) (s : ServiceState) → takes_pieces asked (line ∷ p ∷ ps) (serving s) ≡ takes_pieces asked (p ∷ ps) (serving (takes asked line s))
unfolding takes_pieces
one_taken asked line p ps s = refl

pub line_goes_on : (asked : LiveSetup) (s : ServiceState) (line more : List ℕ) → is_unbroken line ≡ true → stage_after asked s (line ++ line_feed ∷ more) ≡ stage_after asked (takes asked line s) more
line_goes_on asked s line more whole =
    let others = some_piece more in
    ap (λ ps. takes_pieces asked ps (serving s)) (cut_first line more whole ∙ ap (λ ps. line ∷ ps) others.2)
    ∙ one_taken asked line others.0 others.1 s
    ∙ ap (λ ps. takes_pieces asked ps (serving (takes asked line s))) (sym others.2)

-- ---- What the code has taken.

-- bytes without a line feed are kept
pub kept : (bytes : List ℕ) (old new : Live) → new.service ≡ old.service → ((torn : List ℕ) → HasTorn torn old.torn → HasTorn (torn ++ bytes) new.torn) → Pushes bytes old new []
kept bytes old new same has asked s torn at there = record {
  now = s;
  torn = torn ++ bytes;
  at = subst (λ (x : Service). IsAtService asked x s) (sym same) at;
  has = has torn there;
  written = sym (append-nil s.written);
  same = λ more. refl;
}

-- a line ended
pub line_ended : (text told : List ℕ) (old new : Live) → is_unbroken text ≡ true → ((torn : List ℕ) → HasTorn torn old.torn → HasTorn [] new.torn)
    → ((torn : List ℕ) → HasTorn torn old.torn → FollowsStep (λ asked s. takes asked (torn ++ text) s) old.service new.service told) → Pushes (text ++ line_feed ∷ []) old new told
line_ended text told old new whole empty made asked s torn at there = record {
  now = takes asked (torn ++ text) s;
  torn = [];
  at = (made torn there).at asked s at;
  has = empty torn there;
  written = (made torn there).written asked s at;
  same = λ more.
      ap (stage_after asked s) (append_assoc torn (text ++ line_feed ∷ []) more ∙ ap (λ t. torn ++ t) (append_assoc text (line_feed ∷ []) more) ∙ sym (append_assoc torn text (line_feed ∷ more)))
      ∙ line_goes_on asked s (torn ++ text) more (unbroken_both torn text there.unbroken whole);
}

-- some bytes, and then others
pub then_takes : (bytes prefix rest told more : List ℕ) (old mid new : Live) → TakesBytes bytes (prefix ++ rest) old mid told → Pushes prefix mid new more → TakesBytes bytes rest old new (told ++ more)
then_takes bytes prefix rest told more old mid new first later asked s torn at there =
    let a = first asked s torn at there in
    let b = later asked a.now a.torn a.at a.has in
    record {
      now = b.now;
      torn = b.torn;
      at = b.at;
      has = b.has;
      written = b.written ∙ ap (λ w. w ++ more) a.written ∙ append_assoc s.written told more;
      same = λ others.
          a.same others ∙ ap (stage_after asked a.now) (ap (λ t. a.torn ++ t) (append_assoc prefix rest others) ∙ sym (append_assoc a.torn prefix (rest ++ others))) ∙ b.same (rest ++ others);
    }

-- none came
pub none_taken : (bytes : List ℕ) (x : Live) → TakesBytes bytes bytes x x []
none_taken bytes x asked s torn at there = record {
  now = s;
  torn = torn;
  at = at;
  has = there;
  written = sym (append-nil s.written);
  same = λ more. ap (stage_after asked s) (append_assoc torn bytes more);
}

-- ---- What is kept of a line.

-- nothing is kept of nothing
pub nothing_torn : (x : TornBytes) → x ≡ no_bytes → HasTorn [] x
nothing_torn x none = subst (HasTorn []) (sym none) (record { keeps = record { kept = refl; blank = refl }; unbroken = refl })

-- more bytes are kept
pub torn_more : (torn bytes : List ℕ) (x y : TornBytes) → is_unbroken bytes ≡ true → (KeepsFirst (max_line + 1) torn x → KeepsFirst (max_line + 1) (torn ++ bytes) y) → HasTorn torn x → HasTorn (torn ++ bytes) y
torn_more torn bytes x y whole keeps has = record { keeps = keeps has.keeps; unbroken = unbroken_both torn bytes has.unbroken whole }

-- or none, where there was no memory
pub kept_on : {T E : Type 0} (r : Result T E) (bytes : List ℕ) (x y : TornBytes) → is_unbroken bytes ≡ true
    → OnOk r ((torn : List ℕ) → KeepsFirst (max_line + 1) torn x → KeepsFirst (max_line + 1) (torn ++ bytes) y) → OnErr r (y ≡ x)
    → (torn : List ℕ) × HasTorn torn x → (torn : List ℕ) × HasTorn torn y
kept_on (Ok none) bytes x y whole keeps left (torn, has) = (torn ++ bytes, torn_more torn bytes x y whole (keeps torn) has)
kept_on (Err fault) bytes x y whole keeps left has = subst (λ (z : TornBytes). (torn : List ℕ) × HasTorn torn z) (sym left) has

-- a line that is too long has some bytes
pub some_long : (torn : List ℕ) → 65536 < length torn → torn ≡ [] → ⊥
some_long torn long none = omega (arith, long, ap length none)

-- nothing is kept of nothing alone
pub none_torn : (torn : List ℕ) (x : TornBytes) → HasTorn torn x → length x.kept ≡ 0 → torn ≡ []
none_torn torn x has none = at 65536 torn (sym has.keeps.kept ∙ nil_from_length x.kept none)
  where
    at : (n : ℕ) (t : List ℕ) → take (suc n) t ≡ [] → t ≡ []
    at n [] e = refl
    at n (b ∷ t) e = absurd (cc)

-- a line that ended where nothing was kept
pub line_alone : (text told : List ℕ) (x y : Service) (torn : TornBytes) → is_unbroken text ≡ true → length torn.kept ≡ 0 → FollowsStep (λ asked s. takes asked text s) x y told
    → Pushes (text ++ line_feed ∷ []) (record { service = x; torn = torn }) (record { service = y; torn = torn }) told
line_alone text told x y torn whole none made = line_ended text told (record { service = x; torn = torn }) (record { service = y; torn = torn }) whole
    (λ some there. subst (λ t. HasTorn t torn) (none_torn some torn there none) there)
    (λ some there. subst (λ t. FollowsStep (λ asked s. takes asked t s) x y told) (ap (λ t. t ++ text) (sym (none_torn some torn there none))) made)

-- the input ended
pub finishes : (x y : Service) (torn left : TornBytes) (told : List ℕ) → ((some : List ℕ) → HasTorn some torn → FollowsStep (λ asked s. ends asked (takes_torn asked some s)) x y told)
    → EndsInput (record { service = x; torn = torn }) (record { service = y; torn = left }) told
finishes x y torn left told made = record {
  at = λ asked s some at there. (made some there).at asked s at;
  written = λ asked s some at there. (made some there).written asked s at;
}

-- ---- The next line of some bytes.

pub prefix_cut : (rest text more after : List ℕ) (x end : ℕ) → text ≡ take end rest → more ≡ drop end rest → more ≡ x ∷ after → (end < length rest → get_or rest end 0 ≡ line_feed) → rest ≡ (text ++ line_feed ∷ []) ++ after
prefix_cut rest text more after x end is_text is_more is there =
    let less : end < length rest = omega (arith, length-drop end rest, ap length is_more, ap length is) in
    let first : x ≡ line_feed = ap (λ l. get_or l 0 0) (sym is ∙ is_more ∙ drop-cons rest end 0 less) ∙ there less in
    sym (take-append-drop end rest) ∙ ap₂ (λ a b. a ++ b) (sym is_text) (sym is_more ∙ is ∙ ap (λ b. b ∷ after) first) ∙ sym (append_assoc text (line_feed ∷ []) after)

-- there is no line feed in them
pub none_cut : (rest text more : List ℕ) (end : ℕ) → text ≡ take end rest → more ≡ drop end rest → length more ≡ 0 → rest ≡ text ++ []
none_cut rest text more end is_text is_more none =
    sym (take-append-drop end rest) ∙ ap₂ (λ a b. a ++ b) (sym is_text) (sym is_more ∙ nil_from_length more none)

-- ---- The whole input.

-- the rest of some bytes, of which the first came
pub some_came : (bytes rest told : List ℕ) (x y : Live) → Pushes bytes x y told → TakesBytes (bytes ++ rest) rest x y told
some_came bytes rest told x y one = then_takes (bytes ++ rest) bytes rest [] told x x y (none_taken (bytes ++ rest) x) one

-- some bytes, and then others
pub then_pushes : (first more told later : List ℕ) (x y z : Live) → Pushes first x y told → Pushes more y z later → Pushes (first ++ more) x z (told ++ later)
then_pushes first more told later x y z one others =
    then_takes (first ++ more) more [] told later x y z (subst (λ r. TakesBytes (first ++ more) r x y told) (sym (append-nil more)) (some_came first more told x y one)) others

all_came : (chunks : List (List ℕ)) (x y : Live) (told : List ℕ) → Comes chunks x y told → Pushes (flat_map (λ bytes. bytes) chunks) x y told
unfolding Comes
all_came [] x y told (same, none) = subst (λ t. Pushes [] x y t) (sym none) (subst (λ (z : Live). Pushes [] x z []) same (none_taken [] x))
all_came (bytes ∷ chunks) x y told (mid, first, later, one, others, is) =
    let rest = flat_map (λ b. b) chunks in
    subst (λ t. Pushes (bytes ++ rest) x y t) (sym is) (then_pushes bytes rest first later x mid y one (all_came chunks mid y later others))

pub ended : (asked : LiveSetup) (s : ServiceState) (torn : List ℕ) → is_unbroken torn ≡ true → stage_after asked s torn ≡ (serving s, torn)
unfolding takes_pieces
ended asked s torn whole = ap (λ ps. takes_pieces asked ps (serving s)) (one_piece torn whole)

pub may_be_cut : MayBeCut
may_be_cut asked s chunks x y z told last at has came fin =
    let bytes = flat_map (λ b. b) chunks in
    let a = all_came chunks x y told came asked s [] at has in
    ap (λ (r : Stage × List ℕ). written_of (takes_end asked r.1 r.0))
    (ap (stage_after asked s) (sym (append-nil bytes)) ∙ a.same [] ∙ ap (stage_after asked a.now) (append-nil a.torn) ∙ ended asked a.now a.torn a.has.unbroken)
    ∙ fin.written asked a.now a.torn a.at a.has ∙ ap (λ w. w ++ last) a.written ∙ append_assoc s.written told last
