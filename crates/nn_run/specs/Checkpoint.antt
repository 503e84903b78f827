-- What a run from an image shows, as a statement; a function of the crate proves it.
use Rattle.std.specs.Prelude.{◌≡◌, ℕ, ◌+◌, ◌≤◌, ◌<◌, ◌^◌, List, [], ◌∷◌, ◌++◌, length, map, Ok}
use Rattle.nn_types.specs.declared.tx.Tx.{Tx}
use Rattle.nn_model.specs.Lanes.{Lanes}
use Rattle.nn_model.specs.Log.{counted, log_of, namespace_after}
use Rattle.nn_model.specs.Namespace.{root_alone}
use Rattle.nn_model.specs.WellFormed.{IsWellFormed, HasUtf8Names}
use Rattle.nn_image.specs.Lawful.{HasPaths, IsCountable}
use Rattle.nn_image.specs.Text.{image_text}
use Rattle.nn_image.specs.Reading.{read_image}
use Rattle.nn_segment.specs.Segment.{Segment, first_txid}
use Rattle.nn_segment.specs.LogEnd.{LogEnd, end_of_log}
use Rattle.nn_run.specs.Start.{Start, from_image, from_root}
use Rattle.nn_run.specs.Output.{after_segments}
use Rattle.nn_run.specs.declared.engine.Options.{Options}

-- the start that transactions lead to from the root alone
abbrev pub start_after : List Tx → Start
start_after txs = record { namespace = namespace_after root_alone txs; txid = length txs }

-- after this txid, each segment begins no higher than the next transaction
abbrev pub HasNoGap : ℕ → List Segment → Type 0
HasNoGap last [] = Unit {0}
HasNoGap last (s ∷ segments) = (first_txid s.txs ≤ last + 1) × HasNoGap (last + length (counted last s.txs)) segments

-- A log that applies whole is cut at any transaction. Other segments hold what comes after the cut, with or without what comes before it. Then
-- a run over these, from where the first part of the log leads to, prints the same listing, tables, counts and safe mode as a run over the whole
-- log from the root alone, where both are handed the same messages.
abbrev pub PrintsTheSame : Type 0
PrintsTheSame = (options : Options) (lanes : Lanes) (segments rest : List Segment) (prefix back : List Tx) (end : LogEnd)
    → end_of_log 0 root_alone segments ≡ Ok end → log_of 0 (map (λ s. s.txs) segments) ≡ prefix ++ back
    → log_of (length prefix) (map (λ s. s.txs) rest) ≡ back → HasNoGap (length prefix) rest
    → after_segments (start_after prefix) options lanes (Ok rest) ≡ after_segments from_root options lanes (Ok segments)

-- and that is where the image of version 2 starts a run, where every path keeps the limits of paths
abbrev pub StartsThere : Type 0
StartsThere = (txs : List Tx) → IsWellFormed (namespace_after root_alone txs) → HasUtf8Names (namespace_after root_alone txs) → HasPaths (namespace_after root_alone txs) → IsCountable (namespace_after root_alone txs) → length txs < 2 ^ 63
    → from_image (read_image (image_text (namespace_after root_alone txs) (length txs))) ≡ Ok (start_after txs)
