-- The lines of an input, which a service takes as they come.
use Rattle.std.proofs.Common.{◌≡◌, ◌⊎◌, inl, inr, ℕ, ◌+◌, ◌<◌, ◌≤◌, Bool, true, List, [], ◌∷◌, ◌++◌, length, take, refl, sym, ap, subst, ◌∙◌, arith, append_assoc, append-nil}
use Rattle.std.specs.List.{list_all}
use Rattle.std.proofs.lemmas.List.{length-take}
use Rattle.nn_bytes.specs.Lines.{line_feed}
use Rattle.nn_bytes.specs.Pieces.{is_unbroken, joined_lines, pieces}
use Rattle.nn_bytes.proofs.PieceLemmas.{joined_more, lines_first, some_piece}
use Rattle.nn_device.specs.Device.{Reader}
use Rattle.nn_input.specs.Cut.{HasEnded, IsCutTo, IsFresh, KeepsFirst, Lines, Refilled, TornBytes, ahead}
use Rattle.nn_input.specs.declared.lines.Place.{Place}
use Rattle.nn_input.proofs.Cuts.{come_ahead, comes_ahead, kept_text}
use Rattle.nn_scenario.specs.Follow.{IsLineText}
use Rattle.nn_types.specs.Limits.{max_line}
use Rattle.nn_live.specs.Live.{LiveSetup, ServiceState, Stage, serving, takes, takes_all, takes_pieces, written_of}
use Rattle.nn_live.specs.Served.{HasServed, LeavesLine, ServedInput, TakesLines}
use Rattle.nn_live.specs.Serving.{Breaks, FollowsStep, IsAtService, Service}
use Rattle.nn_live.specs.Taking.{IsLong, LacksLine, stage_after}
use Rattle.nn_live.proofs.Breaking.{nothing_first}
use Rattle.nn_live.proofs.BrokenPushes.{some_line}
use Rattle.nn_live.proofs.Cutting.{ended}
use Rattle.nn_live.proofs.Growing.{pieces_grow}

-- ---- The text of a line, of which no more is kept than its fault needs.

module _ (line text : List ℕ) (blank : Bool) (is : IsLineText line text blank) where
  -- it is too long, and so is the line
  pub text_long : max_line < length text → IsLong line blank
  text_long long = record { long = at is.is; all = sym is.told }
    where
      at : (text ≡ line) ⊎ ((max_line + 1 ≤ length line) × (text ≡ take (max_line + 1) line)) → max_line < length line
      at (inl same) = subst (λ (t : List ℕ). max_line < length t) same long
      at (inr (kept, cut)) = omega (arith, kept)

  -- or it is all of the line
  pub text_whole : length text ≤ max_line → text ≡ line
  text_whole short = at is.is
    where
      at : (text ≡ line) ⊎ ((max_line + 1 ≤ length line) × (text ≡ take (max_line + 1) line)) → text ≡ line
      at (inl same) = same
      at (inr (kept, cut)) = absurd (omega (arith, kept, ap length cut, length-take (max_line + 1) line, short))

-- the text of the line in hand, as it was handed over
pub torn_text : (torn text : List ℕ) (blank : Bool) (x : TornBytes) → text ≡ x.kept → blank ≡ x.blank → KeepsFirst (max_line + 1) torn x → IsLineText torn text blank
torn_text torn text blank x is told keeps = kept_text (max_line + 1) torn (record { kept = text; blank = blank }) (record { kept = is ∙ keeps.kept; blank = told ∙ keeps.blank })

-- ---- Lines are taken, one after another.

pub one_more : (asked : LiveSetup) (lines : List (List ℕ)) (line : List ℕ) (s : ServiceState) → takes_all asked (lines ++ line ∷ []) s ≡ takes asked line (takes_all asked lines s)
unfolding takes_all
one_more asked [] line s = refl
one_more asked (first ∷ lines) line s = one_more asked lines line (takes asked first s)

pieces_taken : (asked : LiveSetup) (lines : List (List ℕ)) (p : List ℕ) (ps : List (List ℕ)) (s : ServiceState)
    → takes_pieces asked (lines ++ p ∷ ps) (serving s) ≡ takes_pieces asked (p ∷ ps) (serving (takes_all asked lines s))
unfolding takes_pieces takes_all
pieces_taken asked [] p ps s = refl
pieces_taken asked (line ∷ []) p ps s = refl
pieces_taken asked (line ∷ next ∷ lines) p ps s = pieces_taken asked (next ∷ lines) p ps (takes asked line s)

-- whatever follows them
lines_stage : (asked : LiveSetup) (lines : List (List ℕ)) (more : List ℕ) (s : ServiceState) → list_all is_unbroken lines ≡ true
    → stage_after asked s (joined_lines lines ++ more) ≡ stage_after asked (takes_all asked lines s) more
lines_stage asked lines more s each =
    let others = some_piece more in
    ap (λ ps. takes_pieces asked ps (serving s)) (lines_first lines more each ∙ ap (λ ps. lines ++ ps) others.2)
    ∙ pieces_taken asked lines others.0 others.1 s
    ∙ ap (λ ps. takes_pieces asked ps (serving (takes_all asked lines s))) (sym others.2)

-- what the lines of these bytes say
abbrev pub says_from : LiveSetup → ServiceState → List ℕ → List ℕ
says_from asked s bytes = written_of (stage_after asked s bytes).0

-- nothing came of an input yet
pub none_served : (asked : LiveSetup) (s : ServiceState) (x : ServedInput) → IsFresh x.lines → IsAtService asked x.service s → s.written ≡ [] → HasServed asked s (ahead x.lines) [] x
unfolding takes_all
none_served asked s x fresh at none = record { lines = []; come = come_ahead (max_line + 1) x.lines fresh; at = at; written = none }

module _ (asked : LiveSetup) (first : ServiceState) (bytes told : List ℕ) (x : ServedInput) (h : HasServed asked first bytes told x) where
  abbrev now : ServiceState
  now = takes_all asked h.lines first

  -- bytes that are not cut are not taken
  not_cut : stage_after asked first bytes ≡ stage_after asked now (h.come.torn ++ ahead x.lines)
  not_cut = ap (stage_after asked first) h.come.joined ∙ lines_stage asked h.lines (h.come.torn ++ ahead x.lines) first h.come.each

  -- once all is cut, each line that has ended is taken
  pub all_taken : ahead x.lines ≡ [] → stage_after asked first bytes ≡ (serving now, h.come.torn)
  all_taken none = not_cut ∙ ap (λ a. stage_after asked now (h.come.torn ++ a)) none ∙ ap (stage_after asked now) (append-nil h.come.torn) ∙ ended asked now h.come.torn h.come.unbroken

  -- or the line in hand goes on
  pub cut_on : (l : Lines) → IsCutTo (max_line + 1) x.lines l → HasServed asked first bytes told (record { service = x.service; lines = l })
  cut_on l cut = record { lines = h.lines; come = cut bytes h.lines h.come; at = h.at; written = h.written }

  -- bytes come
  pub more_came : (a b : Reader) (y : ServedInput) → ahead x.lines ≡ [] → y.service ≡ x.service → (r : Refilled a b x.lines y.lines) → HasServed asked first (bytes ++ r.bytes) told y
  more_came a b y none same r = record {
    lines = h.lines;
    come = comes_ahead (max_line + 1) bytes r.bytes h.lines x.lines y.lines none r.are r.torn h.come;
    at = subst (λ (s : Service). IsAtService asked s now) (sym same) h.at;
    written = h.written;
  }

  -- what the lines before it say
  says_lines : (more : List ℕ) → is_unbroken more ≡ true → says_from asked first (joined_lines h.lines ++ more) ≡ told
  says_lines more whole = ap (λ (r : Stage × List ℕ). written_of r.0) (lines_stage asked h.lines more first h.come.each ∙ ended asked now more whole) ∙ h.written

  -- what is ahead is not taken
  pub rest_left : (ahead x.lines ≡ [] → ⊥) → LacksLine (says_from asked first) bytes (told ++ [])
  rest_left some =
      let before = says_lines h.come.torn h.come.unbroken in
      let grown = pieces_grow asked (pieces (h.come.torn ++ ahead x.lines)) now in
      record {
        taken = joined_lines h.lines ++ h.come.torn;
        left = ahead x.lines;
        are = h.come.joined ∙ sym (append_assoc (joined_lines h.lines) h.come.torn (ahead x.lines));
        some = some;
        part = [];
        begins = ap (λ w. w ++ []) (sym before);
        cut = record {
          rest = grown.0;
          is = ap (λ (r : Stage × List ℕ). written_of r.0) not_cut ∙ grown.1 ∙ ap (λ w. w ++ grown.0) (h.written ∙ sym (append-nil told) ∙ ap (λ w. w ++ []) (sym before));
          short = λ empty. refl;
        };
      }

  -- ---- A line has ended.

  module _ (p : Place) (l : Lines) (e : HasEnded (max_line + 1) bytes h.lines p l) (more : List ℕ) where
    -- it is taken
    pub line_taken : (y : Service) → FollowsStep (λ asked s. takes asked e.line s) x.service y more → HasServed asked first bytes (told ++ more) (record { service = y; lines = l })
    line_taken y step = record {
      lines = h.lines ++ e.line ∷ [];
      come = e.come;
      at = subst (λ (s : ServiceState). IsAtService asked y s) (sym (one_more asked h.lines e.line first)) (step.at asked now h.at);
      written = ap (λ (s : ServiceState). s.written) (one_more asked h.lines e.line first) ∙ step.written asked now h.at ∙ ap (λ w. w ++ more) h.written;
    }

    -- or it is not
    pub line_left : Breaks (λ asked s. takes asked e.line s) x.service more → LacksLine (says_from asked first) bytes (told ++ more)
    line_left breaks =
        let text = e.line ++ line_feed ∷ [] in
        let next = takes asked e.line now in
        let cut = breaks asked now h.at in
        let grown = pieces_grow asked (pieces (ahead l)) next in
        let before : says_from asked first (joined_lines h.lines) ≡ told = ap (says_from asked first) (sym (append-nil (joined_lines h.lines))) ∙ says_lines [] refl in
        let joined : bytes ≡ joined_lines (h.lines ++ e.line ∷ []) ++ ahead l = e.come.joined ∙ ap (λ t. joined_lines (h.lines ++ e.line ∷ []) ++ (t ++ ahead l)) e.begins in
        let behind : says_from asked first bytes ≡ says_from asked next (ahead l) =
        ap (λ (r : Stage × List ℕ). written_of r.0) (ap (stage_after asked first) joined ∙ lines_stage asked (h.lines ++ e.line ∷ []) (ahead l) first e.come.each ∙ ap (λ s. stage_after asked s (ahead l)) (one_more asked h.lines e.line first)) in
        record {
          taken = joined_lines h.lines;
          left = text ++ ahead l;
          are = joined ∙ ap (λ j. j ++ ahead l) (joined_more h.lines e.line) ∙ append_assoc (joined_lines h.lines) text (ahead l);
          some = λ none. some_line e.line (nothing_first text (ahead l) none);
          part = more;
          begins = ap (λ w. w ++ more) (sym before);
          cut = record {
            rest = cut.rest ++ grown.0;
            is = behind ∙ grown.1 ∙ ap (λ w. w ++ grown.0) cut.is ∙ append_assoc (now.written ++ more) cut.rest grown.0 ∙ ap (λ w. (w ++ more) ++ (cut.rest ++ grown.0)) (h.written ∙ sym before);
            short = λ none. cut.short (nothing_first cut.rest grown.0 none);
          };
        }

-- ---- Lines that were taken before.

pub then_taken : (old mid new : ServedInput) (told more : List ℕ) → TakesLines old mid told → TakesLines mid new more → TakesLines old new (told ++ more)
then_taken old mid new told more one others asked first bytes before h =
    subst (λ t. HasServed asked first bytes t new) (append_assoc before told more) (others asked first bytes (before ++ told) (one asked first bytes before h))

pub then_left : (old mid : ServedInput) (told more : List ℕ) → TakesLines old mid told → LeavesLine mid more → LeavesLine old (told ++ more)
then_left old mid told more one left asked first bytes before h =
    subst (LacksLine (says_from asked first) bytes) (append_assoc before told more) (left asked first bytes (before ++ told) (one asked first bytes before h))
