-- A service and the bytes behind the last line feed.
use Rattle.std.specs.Prelude.{◌≡◌, ◌<◌, ◌+◌, ℕ, Bool, true, List, [], ◌∷◌, ◌++◌, flat_map, length}
use Rattle.nn_bytes.specs.Lines.{is_blank}
use Rattle.nn_bytes.specs.Pieces.{is_unbroken, pieces}
use Rattle.nn_input.specs.Cut.{KeepsFirst, TornBytes}
use Rattle.nn_live.specs.Live.{LiveSetup, ServiceState, Stage, ended, ends, serving, takes_pieces, takes_torn, written_of}
use Rattle.nn_live.specs.Serving.{Service, BreaksAtEnd, IsAtService, IsCutShort, HasRunOut, RunsOutBehind}
use Rattle.nn_types.specs.Limits.{max_line}

pub record Live : Type 0 where
  pub service : Service
  pub torn : TornBytes

-- of these bytes behind the last line feed it has the first 65,537, and knows whether all are blank
pub record HasTorn (torn : List ℕ) (x : TornBytes) : Type 0 where
  pub keeps : KeepsFirst (max_line + 1) torn x
  pub unbroken : is_unbroken torn ≡ true

-- a line that has more bytes than one may have, and may be blank
pub record IsLong (text : List ℕ) (blank : Bool) : Type 0 where
  pub long : max_line < length text
  pub all : is_blank text ≡ blank

-- what the definition comes to, where it has taken the lines before these bytes
abbrev pub stage_after : LiveSetup → ServiceState → List ℕ → Stage × List ℕ
stage_after asked s bytes = takes_pieces asked (pieces bytes) (serving s)

-- Of these bytes the code has taken all but the rest, and put this text. It is at a service of the definition, which goes on with what the
-- code has of the last line, and with the rest, as it does with all.
pub record TakenAllBut (asked : LiveSetup) (s : ServiceState) (bytes rest text : List ℕ) (x : Live) : Type 0 where
  pub now : ServiceState
  pub torn : List ℕ
  pub at : IsAtService asked x.service now
  pub has : HasTorn torn x.torn
  pub written : now.written ≡ s.written ++ text
  pub same : (more : List ℕ) → stage_after asked s (bytes ++ more) ≡ stage_after asked now (torn ++ (rest ++ more))

abbrev pub TakesBytes : List ℕ → List ℕ → Live → Live → List ℕ → Type 0
TakesBytes bytes rest old new text =
    (asked : LiveSetup) (s : ServiceState) (torn : List ℕ) → IsAtService asked old.service s → HasTorn torn old.torn → TakenAllBut asked s (torn ++ bytes) rest text new

-- these bytes came, and this text was put: just what the lines that ended say, as no line feed is left
abbrev pub Pushes : List ℕ → Live → Live → List ℕ → Type 0
Pushes bytes old new text = TakesBytes bytes [] old new text

-- A line of these bytes was not taken, where this is what lines say that ended among the first of them. All that the lines before it say
-- was told, and of what is left not all, unless it says nothing.
pub record LacksLine (says : List ℕ → List ℕ) (bytes told : List ℕ) : Type 0 where
  pub taken : List ℕ
  pub left : List ℕ
  pub are : bytes ≡ taken ++ left
  pub some : left ≡ [] → ⊥
  pub part : List ℕ
  pub begins : told ≡ says taken ++ part
  pub cut : IsCutShort (says taken) part (says bytes)

-- not all lines of these bytes were taken
abbrev pub BreaksPush : List ℕ → Live → List ℕ → Type 0
BreaksPush bytes old told =
    (asked : LiveSetup) (s : ServiceState) (torn : List ℕ) → IsAtService asked old.service s → HasTorn torn old.torn
    → LacksLine (λ some. written_of (stage_after asked s (torn ++ some)).0) bytes (s.written ++ told)

-- and so at the end of the input
abbrev pub BreaksEnd : Live → List ℕ → Type 0
BreaksEnd old told = (torn : List ℕ) → HasTorn torn old.torn → BreaksAtEnd torn old.service told

-- a count had reached its end when some of the lines of these bytes were taken
abbrev pub RunsOut : List ℕ → Live → Type 0
RunsOut bytes old = (mid : Live) × (rest : List ℕ) × (told : List ℕ) × TakesBytes bytes rest old mid told × HasRunOut mid.service

-- and so at the end of the input
abbrev pub RunsOutAtEnd : Live → Type 0
RunsOutAtEnd old = (torn : List ℕ) → HasTorn torn old.torn → RunsOutBehind torn old.service

-- the input ended, and this text was put
pub record EndsInput (old new : Live) (text : List ℕ) : Type 0 where
  pub at : (asked : LiveSetup) (s : ServiceState) (torn : List ℕ) → IsAtService asked old.service s → HasTorn torn old.torn → IsAtService asked new.service (ends asked (takes_torn asked torn s))
  pub written : (asked : LiveSetup) (s : ServiceState) (torn : List ℕ) → IsAtService asked old.service s → HasTorn torn old.torn → (ends asked (takes_torn asked torn s)).written ≡ s.written ++ text

-- these chunks came, one after another, and this text was put
unfoldable pub Comes : List (List ℕ) → Live → Live → List ℕ → Type 0
Comes [] x y told = (x ≡ y) × (told ≡ [])
Comes (bytes ∷ chunks) x y told = (mid : Live) × (first : List ℕ) × (later : List ℕ) × Pushes bytes x mid first × Comes chunks mid y later × (told ≡ first ++ later)

-- An input may come in chunks: what is told of them, and of its end, is what the definition tells of the whole.
abbrev pub MayBeCut : Type 0
MayBeCut =
    (asked : LiveSetup) (s : ServiceState) (chunks : List (List ℕ)) (x y z : Live) (told last : List ℕ) → IsAtService asked x.service s → HasTorn [] x.torn → Comes chunks x y told → EndsInput y z last
    → written_of (ended asked (stage_after asked s (flat_map (λ bytes. bytes) chunks))) ≡ s.written ++ (told ++ last)
