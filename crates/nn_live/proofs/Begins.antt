-- Where a service begins, or why none does.
use Rattle.std.proofs.Common.{◌≡◌, ◌⊎◌, ℕ, true, false, List, [], ◌∷◌, ◌++◌, Ok, Err, refl, sym, subst, ap, ap₂, ◌∙◌, arith, inl, inr, append-nil}
use Rattle.std.specs.Result.{is_ok}
use Rattle.nn_bytes.specs.Pieces.{joined_lines}
use Rattle.nn_device.specs.Device.{Reader}
use Rattle.nn_image.specs.Front.{EndsWaiting, FailsWaiting, IsJudged, LoadedAtOnce, StopsWaiting, WaitsUntil}
use Rattle.nn_image.specs.declared.fault.ImageFault.{ImageFault}
use Rattle.nn_image.specs.declared.fault.ImageFault.TheVariants.{Truncated}
use Rattle.nn_input.specs.Cut.{Came, IsFresh, Lines, ahead}
use Rattle.nn_model.specs.Namespace.{Namespace, root_alone}
use Rattle.nn_run.specs.Output.{image_fault}
use Rattle.nn_live.specs.Live.{Stage, exit_status, new_service, refused, so_far, stage_at_end, takes_end, told_so_far, written_of}
use Rattle.nn_live.specs.Running.{BeginsAt, GaveBytes, IsLiveOutput, IsToldAtOnce, IsUnderWay, Run, asked_by, halt_text, serving_by}
use Rattle.nn_live.specs.Served.{ServedInput}
use Rattle.nn_live.specs.Serving.{IsAtService}
use Rattle.nn_live.specs.Taking.{stage_after}
use Rattle.nn_live.specs.declared.run.LiveEnd.{LiveEnd}
use Rattle.nn_live.specs.declared.run.LiveEnd.TheVariants as halt
use Rattle.nn_live.specs.declared.run.LiveOptions.{LiveOptions}
use Rattle.nn_live.proofs.Behind.{judged_refused, judged_stage, waiting_says, waiting_stage}
use Rattle.nn_live.proofs.Running.{none_taken, nothing_said, root_stands}
use Rattle.nn_live.proofs.ServedLines.{none_served}
use Rattle.nn_live.proofs.Serves.{end_output, given_none, halt_output, nothing_served}

-- the line that tells why is all of its output
abbrev Tells : Run → LiveEnd → Type 0
Tells run why = IsLiveOutput run (record { text = halt_text why; status = 1 })

-- what was read gave these bytes
given : (a b : Reader) (bytes : List ℕ) → Came a b bytes → GaveBytes a b bytes
given a b bytes came = record { taken = came.got; counted = came.counted }

pub nothing_output : (o : LiveOptions) (r : Reader) → Tells (serving_by o r r) halt.OutOfMemory
nothing_output o r = halt_output (serving_by o r r) [] halt.OutOfMemory (nothing_served o r)

-- ---- At the root.

pub begins_root : (o : LiveOptions) (r : Reader) (n : Namespace) (txid : ℕ) (l : Lines) → o.from_image ≡ false → n ≡ root_alone → txid ≡ 0 → IsFresh l → ahead l ≡ [] → BeginsAt (serving_by o r r) n txid l
begins_root o r n txid l isnt root zero fresh none = record {
  bytes = [];
  come = record {
    gave = given_none r;
    none_failed = refl;
    at_once = record { earlier = []; last = []; are = refl; one_read = omega arith; before = ([], sym (ap (λ t. t ++ []) (nothing_said o))) };
  };
  image = [];
  are = sym none;
  behind = λ more. root_stands o isnt more ∙ ap₂ (λ m t. stage_after (asked_by o) (new_service m t) more) (sym root) (sym zero);
  fresh = fresh;
}

-- ---- Behind an image.

module _ (o : LiveOptions) (from : o.from_image ≡ true) (a b : Reader) where
  abbrev run : Run
  run = serving_by o a b

  said : (bytes : List ℕ) → told_so_far (asked_by o) true bytes ≡ [] → [] ≡ told_so_far (asked_by o) o.from_image bytes ++ []
  said bytes none = sym (append-nil (told_so_far (asked_by o) o.from_image bytes) ∙ ap (λ f. told_so_far (asked_by o) f bytes) from ∙ none)

  told_until : (bytes : List ℕ) → WaitsUntil bytes → IsToldAtOnce o bytes []
  told_until bytes w = record {
    earlier = w.earlier;
    last = w.last;
    are = w.are;
    one_read = w.one_read;
    before = ([], said w.earlier (waiting_says (asked_by o) w.earlier w.waiting));
  }

  pub begins_image : (n : Namespace) (txid : ℕ) (l : Lines) → LoadedAtOnce (Ok (n, txid)) a b l → BeginsAt run n txid l
  begins_image n txid l m = at m.is
    where
      at : IsJudged (Ok (n, txid)) m.bytes (ahead l) ⊎ EndsWaiting (Ok (n, txid)) m.bytes (ahead l) b → BeginsAt run n txid l
      at (inl j) = record {
        bytes = m.bytes;
        come = record { gave = given a b m.bytes m.came; none_failed = m.came.unfailed; at_once = told_until m.bytes m.until };
        image = joined_lines (j.before ++ j.line ∷ []);
        are = j.are;
        behind = λ more. ap (λ f. so_far (asked_by o) f (joined_lines (j.before ++ j.line ∷ []) ++ more)) from ∙ judged_stage (asked_by o) n txid m.bytes (ahead l) j more;
        fresh = m.fresh;
      }
      at (inr e) = absurd (let clash : true ≡ false = ap is_ok e.told in cc)

  -- a line is refused, or the image has no end
  pub image_output : (fault : ImageFault) (l : Lines) → LoadedAtOnce (Err fault) a b l → Tells run (halt.Refused fault)
  image_output fault l m = at m.is
    where
      torn : EndsWaiting (Err fault) m.bytes (ahead l) b → fault ≡ Truncated → Tells run (halt.Refused fault)
      torn e is =
          let stage : stage_at_end (asked_by o) o.from_image m.bytes ≡ refused Truncated =
          ap (λ (r : Stage × List ℕ). takes_end (asked_by o) r.1 r.0) (ap (λ f. so_far (asked_by o) f m.bytes) from ∙ waiting_stage (asked_by o) m.bytes e.waiting) in
          end_output run (image_fault fault).text 1 (record {
            input = m.bytes;
            gave = given a b m.bytes m.came;
            whole = e.end;
            none_failed = m.came.unfailed;
            is = ap (λ f. record { text = (image_fault f).text; status = 1 }) is ∙ ap (λ s. record { text = written_of s; status = exit_status s }) (sym stage);
          })

      at : IsJudged (Err fault) m.bytes (ahead l) ⊎ EndsWaiting (Err fault) m.bytes (ahead l) b → Tells run (halt.Refused fault)
      at (inl j) = halt_output run [] (halt.Refused fault) (record {
        bytes = m.bytes;
        gave = given a b m.bytes m.came;
        at_once = told_until m.bytes m.until;
        reader = m.came.unfailed;
        is = inl (refl, λ more. ap (λ f. (so_far (asked_by o) f (m.bytes ++ more)).0) from ∙ judged_refused (asked_by o) fault m.bytes (ahead l) j more);
      })
      at (inr e) = torn e (let same : Err fault ≡ Err Truncated = e.told in cc)

  -- a read failed
  pub unread_output : FailsWaiting a b → Tells run halt.Unreadable
  unread_output f =
      let none = said f.bytes (waiting_says (asked_by o) f.bytes f.waiting) in
      halt_output run [] halt.Unreadable (record {
        bytes = f.bytes;
        gave = record { taken = f.got; counted = f.counted };
        at_once = record { earlier = f.bytes; last = []; are = sym (append-nil f.bytes); one_read = omega arith; before = ([], none) };
        reader = (f.noted, f.why);
        is = inl (none ∙ append-nil (told_so_far (asked_by o) o.from_image f.bytes));
      })

  -- memory was refused
  pub stopped_output : StopsWaiting a b → Tells run halt.OutOfMemory
  stopped_output s = halt_output run [] halt.OutOfMemory (record {
    bytes = s.bytes;
    gave = given a b s.bytes s.came;
    at_once = told_until s.bytes s.until;
    reader = s.came.unfailed;
    is = inl (none_taken o s.bytes);
  })

-- ---- The service.

module _ (run : Run) (n : Namespace) (txid : ℕ) (l : Lines) (at : BeginsAt run n txid l) where
  -- there is no memory for one
  pub no_service : Tells run halt.OutOfMemory
  no_service = halt_output run [] halt.OutOfMemory (record {
    bytes = at.bytes;
    gave = at.come.gave;
    at_once = at.come.at_once;
    reader = at.come.none_failed;
    is = inl (none_taken run.options at.bytes);
  })

  -- nothing is taken yet
  pub is_begun : (x : ServedInput) → x.lines ≡ l → IsAtService (asked_by run.options) x.service (new_service n txid) → IsUnderWay run [] x
  is_begun x same there = record {
    bytes = at.bytes;
    come = at.come;
    image = at.image;
    rest = ahead x.lines;
    are = at.are ∙ ap (λ k. at.image ++ ahead k) (sym same);
    first = new_service n txid;
    behind = at.behind;
    served = none_served (asked_by run.options) (new_service n txid) x (subst IsFresh (sym same) at.fresh) there refl;
  }
