-- Texts that are written in parts, and prefixes of them.
use Rattle.std.proofs.Common.{ℕ, List, [], ◌++◌, take, drop, refl, sym, ap, ◌∙◌, arith, append_assoc, subst, length-append, length-drop}
use Rattle.std.proofs.KnownBytes.{Appends-trans, Appends-nil}
use Rattle.std.proofs.lemmas.List.{take-append-drop, length-take}
use Rattle.nn_device.specs.Device.{Writer, Took, FailedToWrite}
use Rattle.nn_device.specs.Parts.{Caused, TookPrefix}
use Rattle.nn_device.specs.declared.writer.OutputFault.{OutputFault}
use Rattle.nn_device.specs.declared.writer.OutputFault.TheVariants.{WriteFailed}

module _ (w0 w1 w2 : Writer) (a b : List ℕ) where
  -- a prefix of the first part is a prefix of both
  pub prefix_of : (cause : OutputFault) → TookPrefix w0 w1 a cause → TookPrefix w0 w1 (a ++ b) cause
  prefix_of cause h = record {
    prefix = h.prefix;
    rest = h.rest ++ b;
    whole = ap (λ t. t ++ b) h.whole ∙ append_assoc h.prefix h.rest b;
    short = omega (arith, h.short, length-append h.rest b);
    bytes = h.bytes;
    counted = h.counted;
    caused = h.caused;
  }

  -- and so is the first part with a prefix of the second
  pub prefix_after : (cause : OutputFault) → Took w0 w1 a → TookPrefix w1 w2 b cause → TookPrefix w0 w2 (a ++ b) cause
  prefix_after cause first h = record {
    prefix = a ++ h.prefix;
    rest = h.rest;
    whole = ap (λ t. a ++ t) h.whole ∙ sym (append_assoc a h.prefix h.rest);
    short = h.short;
    bytes = Appends-trans w0.contents w1.contents w2.contents a h.prefix first.bytes h.bytes;
    counted = omega (arith, first.counted, h.counted, length-append a h.prefix);
    caused = subst (λ before. Caused cause before w2.failed) first.unfailed h.caused;
  }

  pub took_both : Took w0 w1 a → Took w1 w2 b → Took w0 w2 (a ++ b)
  took_both first later = record {
    bytes = Appends-trans w0.contents w1.contents w2.contents a b first.bytes later.bytes;
    counted = omega (arith, first.counted, later.counted, length-append a b);
    unfailed = later.unfailed ∙ first.unfailed;
  }

pub took_nothing : (w : Writer) → Took w w []
took_nothing w = record { bytes = Appends-nil w.contents; counted = omega arith; unfailed = refl }

-- what a failed write leaves is a prefix
pub prefix_taken : (old new : Writer) (text : List ℕ) (written : ℕ) → FailedToWrite old new text written → TookPrefix old new text WriteFailed
prefix_taken old new text written h = record {
  prefix = take written text;
  rest = drop written text;
  whole = sym (take-append-drop written text);
  short = omega (arith, h.short, length-drop written text);
  bytes = h.bytes;
  counted = omega (arith, h.short, h.counted, length-take written text);
  caused = h.noted;
}
