-- A service that is fed by a reader: what it was given, and what it wrote.
use Rattle.std.proofs.Common.{◌≡◌, ◌⊎◌, ℕ, ◌+◌, true, List, [], ◌++◌, Option, Some, None, refl, sym, subst, ap, ◌∙◌, arith, inl, inr, length-append}
use Rattle.std.specs.Io.KnownBytes.{Consumes, Keeps}
use Rattle.std.proofs.KnownBytes.{Consumes-nil, Consumes-trans}
use Rattle.nn_device.specs.Device.{IsRefusal, Reader, Writer}
use Rattle.nn_input.specs.Cut.{Came}
use Rattle.nn_device.specs.Page.{Page, HasGone, HasPut}
use Rattle.nn_device.specs.Parts.{TookPrefix}
use Rattle.nn_device.specs.declared.writer.OutputFault.{OutputFault}
use Rattle.nn_device.specs.declared.writer.OutputFault.TheVariants.{WriteFailed}
use Rattle.nn_run.specs.Output.{image_fault}
use Rattle.nn_image.specs.declared.fault.ImageFault.{ImageFault}
use Rattle.nn_live.specs.Live.{ended, refused, so_far, exit_status, written_of}
use Rattle.nn_live.specs.Running.{EndsRun, GaveBytes, Halts, HaltsAtEnd, IsHalt, IsCutOff, IsLiveOutput, IsReader, IsToldAtOnce, IsUntaken, Run, asked_by, halt_text, live_output, serving_by}
use Rattle.nn_live.specs.declared.run.LiveEnd.{LiveEnd}
use Rattle.nn_live.specs.declared.run.LiveEnd.TheVariants as halt
use Rattle.nn_live.specs.declared.run.LiveOptions.{LiveOptions}
use Rattle.nn_live.proofs.Running.{nothing_said}

-- ---- What the reader gave.

pub given_none : (r : Reader) → GaveBytes r r []
given_none r = record { taken = Consumes-nil r.left; counted = omega arith }

module _ (a b c : Reader) (bytes : List ℕ) (gave : GaveBytes a b bytes) where
  -- a read gave more
  pub given_more : (more : List ℕ) → Came b c more → GaveBytes a c (bytes ++ more)
  given_more more came = record {
    taken = Consumes-trans a.left b.left c.left bytes more gave.taken came.got;
    counted = omega (arith, length-append bytes more, gave.counted, came.counted);
  }

  -- a read that failed gave nothing
  pub given_still : Keeps b.left c.left → c.given ≡ b.given → GaveBytes a c bytes
  given_still keeps same = record { taken = at a.left b.left c.left gave.taken keeps; counted = omega (arith, gave.counted, same) }
    where
      at : (x y z : Option (List ℕ)) → Consumes x y bytes → Keeps y z → Consumes x z bytes
      at None y z took keeps = tt
      at (Some x) None z took keeps = absurd took
      at (Some x) (Some y) None took keeps = absurd keeps
      at (Some x) (Some y) (Some z) took keeps = took ∙ ap (λ t. bytes ++ t) (sym keeps)

-- ---- Why it ends.

-- before the first read
pub nothing_served : (o : LiveOptions) (r : Reader) → Halts (serving_by o r r) [] halt.OutOfMemory
nothing_served o r = record {
  bytes = [];
  gave = given_none r;
  at_once = record { earlier = []; last = []; are = refl; one_read = omega arith; before = ([], sym (ap (λ t. t ++ []) (nothing_said o))) };
  reader = refl;
  is = inl (inl (refl, refl));
}

-- a read that failed was refused, or was not made
pub cut_off : (before old new : Reader) → old.failed ≡ before.failed → new.given ≡ old.given → IsRefusal old new → IsCutOff before new
cut_off before old new same counted (inl noted) = inl noted
cut_off before old new same counted (inr (inl failed)) = inr (inl (sym same ∙ failed))
cut_off before old new same counted (inr (inr all)) = inr (inr (omega (arith, all, counted)))

-- ---- What it wrote.

-- behind a failed write it has a prefix
pub lost_prefix : (p : Page) (start now : Writer) (text : List ℕ) → p.lost ≡ true → HasPut start text p now → TookPrefix start now text WriteFailed
lost_prefix p start now text lost put = subst (λ b. HasGone b start text p.left now) lost put

pub prefix_took : (start now : Writer) (text : List ℕ) (cause : OutputFault) → cause ≡ WriteFailed → TookPrefix start now text cause → TookPrefix start now text WriteFailed
prefix_took start now text cause is took = subst (TookPrefix start now text) is took

-- whatever follows a line that no image has
refused_output : (o : LiveOptions) (input told : List ℕ) (fault : ImageFault) → told ≡ [] → (so_far (asked_by o) o.from_image input).0 ≡ refused fault
    → record { text = told ++ (image_fault fault).text; status = 1 } ≡ live_output o input
refused_output o input told fault none is =
    let torn = (so_far (asked_by o) o.from_image input).1 in
    ap (λ t. record { text = t ++ (image_fault fault).text; status = 1 }) none
    ∙ ap (λ s. record { text = written_of (ended (asked_by o) (s, torn)); status = exit_status (ended (asked_by o) (s, torn)) }) (sym is)

-- some line was not taken, or the end was not
untaken : (run : Run) (bytes told : List ℕ) → IsHalt run.options bytes told halt.OutOfMemory ⊎ HaltsAtEnd run bytes told halt.OutOfMemory → IsUntaken run bytes told
untaken run bytes told (inl (inl none)) = inl none
untaken run bytes told (inl (inr lacks)) = inr (inl lacks)
untaken run bytes told (inr end) = inr (inr (end.1, end.2))

pub halt_output : (run : Run) (told : List ℕ) (why : LiveEnd) → Halts run told why → IsLiveOutput run (record { text = told ++ halt_text why; status = 1 })
halt_output run told why h = at why h.reader h.is
  where
    at : (why : LiveEnd) → IsReader why run.before run.after → IsHalt run.options h.bytes told why ⊎ HaltsAtEnd run h.bytes told why → IsLiveOutput run (record { text = told ++ halt_text why; status = 1 })
    at (halt.Refused fault) reader (inl is) =
        inr (inl (record { bytes = h.bytes; gave = h.gave; at_once = subst (IsToldAtOnce run.options h.bytes) is.0 h.at_once; none_failed = reader; is = λ more. refused_output run.options (h.bytes ++ more) told fault is.0 (is.1 more) }))
    at (halt.Refused fault) reader (inr end) = let never : halt.Refused fault ≡ halt.OutOfMemory = end.0 in absurd (cc)
    at halt.Unreadable reader (inl is) = inr (inr (inl (record { bytes = h.bytes; gave = h.gave; failed = reader.0; why = reader.1; is = ap (λ t. record { text = t ++ halt_text halt.Unreadable; status = 1 }) is })))
    at halt.Unreadable reader (inr end) = let never : halt.Unreadable ≡ halt.OutOfMemory = end.0 in absurd (cc)
    at halt.OutOfMemory reader is = inr (inr (inr (record { bytes = h.bytes; gave = h.gave; none_failed = reader; told = told; untaken = untaken run h.bytes told is; at_once = h.at_once; is = refl })))

pub end_output : (run : Run) (told : List ℕ) (status : ℕ) → EndsRun run told status → IsLiveOutput run (record { text = told; status = status })
end_output run told status e = inl (record { input = e.input; gave = e.gave; whole = e.whole; none_failed = e.none_failed; is = e.is })
