-- What an operator is asked, and when a standby in service is promoted.
use Rattle.std.specs.Prelude.{◌≡◌, ◌≢◌, ℕ, ◌≤◌, Bool, true, false, List, [], ◌∷◌, ◌++◌, length, map, Ok}
use Rattle.std.specs.List.{All}
use Rattle.std.specs.declared.thread.PromisedHandle.{PromisedHandle}
use Rattle.nn_lane.specs.Ends.{LaneEnd, got_of, known_count}
use Rattle.nn_model.specs.History.{History}
use Rattle.nn_model.specs.Items.{items}
use Rattle.nn_model.specs.Lawful.{IsWhole}
use Rattle.nn_model.specs.Namespace.{Namespace}
use Rattle.nn_model.specs.Picture.{ShowsPicture}
use Rattle.nn_model.specs.Stands.{Stands, tables_of}
use Rattle.nn_segment.specs.LogEnd.{end_of_log, given_in}
use Rattle.nn_segment.specs.Source.{Answer}
use Rattle.nn_segment.specs.Walk.{log_in}
use Rattle.nn_shadow.specs.Contents.{Shadow, standby_of}
use Rattle.nn_lane_standby.specs.LaneSteps.{SameEnds}
use Rattle.nn_lane_standby.specs.Shadows.{shadow_with_past}
use Rattle.nn_lane_standby.specs.Tailing.{has_begun, Standby, standby_without_history, standby_with_past, StandsAt, EndsInEnd, by_node}
use Rattle.nn_drive.specs.Driven.{Goes}
use Rattle.nn_drive.specs.Rounds.{IsRound}
use Rattle.nn_drive.specs.declared.driving.WorkerPromise.{WorkerPromise}
use Rattle.nn_drive.specs.declared.driving.WorkerExit.{WorkerExit}
use Rattle.nn_drive.specs.declared.operator.Request.{Request}
use Rattle.nn_drive.specs.declared.operator.Request.TheVariants.{GoOn, Forget, Hold, ForgetAndHold, Promote}

-- An operator was shown this standby, and this is what it requested. The log's source gave these answers since it was shown the one before
pub record Shown : Type 0 where
  pub answers : List Answer
  pub standby : Standby
  pub running : ℕ
  pub request : Request

-- what is forgotten of a history by a request
abbrev pub forgotten_by : Request → History → History
forgotten_by GoOn history = []
forgotten_by Forget history = history
forgotten_by Hold history = []
forgotten_by ForgetAndHold history = history
forgotten_by Promote history = []

-- what is left of a standby
abbrev pub left_by_request : Request → Standby → Standby
left_by_request GoOn x = x
left_by_request Forget x = standby_without_history x
left_by_request Hold x = x
left_by_request ForgetAndHold x = standby_without_history x
left_by_request Promote x = x

abbrev pub left_of : Shown → Standby
left_of x = left_by_request x.request x.standby

-- whether the log is held by a request
abbrev pub holds : Request → Bool
holds GoOn = false
holds Forget = false
holds Hold = true
holds ForgetAndHold = true
holds Promote = false

-- the namespace is the same, and so is the last transaction
pub record KeepsNamespace (old new : Standby) : Type 0 where
  pub namespace : new.shadow.namespace ≡ old.shadow.namespace
  pub last : new.shadow.last ≡ old.shadow.last

-- ---- What an operator was shown, the last first.

-- what it requested to be forgotten, in order
abbrev pub forgotten : List Shown → History
forgotten [] = []
forgotten (x ∷ shown) = forgotten shown ++ forgotten_by x.request x.standby.shadow.history

-- what the log's source gave up to the last one
abbrev pub answered : List Shown → List Answer
answered [] = []
answered (x ∷ shown) = answered shown ++ x.answers

-- the last one, as if it had kept what was forgotten by then; at first the standby that was handed in
abbrev pub last_shown : Standby → List Shown → Standby
last_shown old [] = old
last_shown old (x ∷ shown) = standby_with_past (forgotten shown) x.standby

-- What it is shown next: the standby that was handed in, and then what was left of the last one, after a rotation. Where it requested that the
-- log be held, the namespace is that of the last one
abbrev pub IsNextShown : Standby → List Shown → Standby → Type 0
IsNextShown old [] x = x ≡ old
IsNextShown old (last ∷ shown) x = IsRound (left_of last) x × (holds last.request ≡ true → KeepsNamespace last.standby x)

-- Each was shown in its turn, and goes on from the one before as if it had kept what was forgotten. At most so many workers were counted as
-- running
abbrev pub AreShownInTurn : ℕ → Standby → List Shown → Type 0
AreShownInTurn workers old [] = Unit {0}
AreShownInTurn workers old (x ∷ shown) =
    AreShownInTurn workers old shown × IsNextShown old shown x.standby × Goes (last_shown old shown) x.answers (standby_with_past (forgotten shown) x.standby) × (x.running ≤ workers)

-- it was asked about these in turn, each time with so many workers, and requested a promotion at none
abbrev pub AskedInTurn : {O : Type 0} → (O → Standby → ℕ → Request → O → Type 0) → O → List Shown → O → Type 0
AskedInTurn asks o [] p = p ≡ o
AskedInTurn {O} asks o (x ∷ shown) p = (q : O) × AskedInTurn asks o shown q × (x.request ≢ Promote) × asks q x.standby x.running x.request p

-- so it did, and the standby went on from the last that it was shown to this one. The log's source gave these answers in all
pub record WasShown {O : Type 0} (asks : O → Standby → ℕ → Request → O → Type 0) (workers : ℕ) (old : Standby) (o : O) (shown : List Shown) (answers : List Answer) (new : Standby) (p : O) : Type 0 where
  pub goes_on : AskedInTurn asks o shown p
  pub in_turn : AreShownInTurn workers old shown
  pub since : List Answer
  pub are : answers ≡ answered shown ++ since
  pub goes : Goes (last_shown old shown) since (standby_with_past (forgotten shown) new)

-- so it did, was shown this standby next, and requested a promotion
abbrev pub RequestsAt : {O : Type 0} → (O → Standby → ℕ → Request → O → Type 0) → ℕ → Standby → O → List Shown → List Answer → Standby → O → Type 0
RequestsAt {O} asks workers old o shown answers x p = (q : O) × (running : ℕ) × (running ≤ workers) × IsNextShown old shown x × WasShown asks workers old o shown answers x q × asks q x running Promote p

-- It requested a promotion at a standby whose lanes were as open as those of the one that was handed in, and whose flush had begun only if
-- that one's had. This holds of that standby, as if it had kept what was forgotten, and of what the log's source gave since
pub record WasRequested {O : Type 0} (asks : O → Standby → ℕ → Request → O → Type 0) (workers : ℕ) (old : Standby) (o : O) (shown : List Shown) (answers : List Answer) (p : O) (Follows : Standby → List Answer → Type 0) : Type 0 where
  pub at : Standby
  pub before : List Answer
  pub since : List Answer
  pub are : answers ≡ before ++ since
  pub lanes : SameEnds old.ends at.ends
  pub begun : has_begun at ≡ has_begun old
  pub requests : RequestsAt asks workers old o shown before at p
  pub follows : Follows (standby_with_past (forgotten shown) at) since

-- a lane that is closed, of which all that it accepted was taken
abbrev pub IsDry : LaneEnd → Type 0
IsDry e = (e.closed ≡ true) × (length e.got ≡ known_count e)

-- this end is closed, and of the lane that the thread at this handle reports into
abbrev pub IsOf : {S : Type 0} → LaneEnd → PromisedHandle (WorkerExit S) (WorkerPromise S) → Type 0
IsOf e h = (e.lane ≡ h.promise.1.value.lane) × (e.closed ≡ true)

-- The standby is promoted: it stands at the log with all that the source gave, up to End, and at its lanes. That log ended there and
-- stopped nowhere. Its history is whole, and its tables are the picture. Each lane is closed, and all that it accepted was taken
pub record IsPromotedAt (start : Namespace) (base : ℕ) (given : List Answer) (ends : List LaneEnd) (x : Shadow) : Type 0 where
  pub stands : Stands start base (log_in base given) (by_node (map got_of ends)) (standby_of x)
  pub whole : IsWhole start (log_in base given) (items (by_node (map got_of ends))) x.history
  pub picture : ShowsPicture x.namespace (items (by_node (map got_of ends))) (tables_of (standby_of x))
  pub none_held : x.held ≡ []
  pub ended : EndsInEnd given
  pub log_end : end_of_log base start (given_in given) ≡ Ok (record { last = x.last; namespace = x.namespace })
  pub dry : All IsDry ends

-- wherever the one stood, after whatever was taken from its history, the other is promoted there, with these answers more
abbrev pub IsPromotedFrom : Standby → List Answer → List LaneEnd → Shadow → Type 0
IsPromotedFrom old answers ends x = (past : History) (start : Namespace) (base : ℕ) (given : List Answer) → StandsAt start base given (standby_with_past past old) → IsPromotedAt start base (given ++ answers) ends (shadow_with_past past x)
