-- What is told of an error is what the arguments ask for.
use Rattle.std.proofs.Common.{◌≡◌, ◌≢◌, ◌⊎◌, ℕ, false, List, Option, Some, None, MatchOption, sym, subst, ◌∙◌, inl, inr}
use Rattle.nn_device.specs.Device.{Reader, Writer}
use Rattle.clap.specs.Words.{Text, IsAmong, fault_of}
use Rattle.clap.specs.declared.error.kind.ErrorKind.{ErrorKind}
use Rattle.clap.specs.declared.error.kind.ErrorKind.TheVariants.{DisplayHelp, DisplayVersion, OutOfMemory}
use Rattle.nn_command.specs.declared.options.Request.{Request}
use Rattle.nn_command.specs.Options.{command_line, AskAs, is_contradictory}
use Rattle.nn_command.specs.Program.{Serves, Streams, TellsOf, WhyNot, AreTaken, AskForHelp, AskForVersion, AskForNothing, Explains, LacksMemory, RunsAsAsked, no_reader, streams}

memory_is_no_help : OutOfMemory ≡ DisplayHelp → ⊥
memory_is_no_help e = absurd (cc)

memory_is_no_version : OutOfMemory ≡ DisplayVersion → ⊥
memory_is_no_version e = absurd (cc)

asks_for_help : (arguments : List Text) (kind : ErrorKind) → kind ≡ DisplayHelp → WhyNot arguments kind → AskForHelp arguments
asks_for_help arguments kind help (inl memory) = absurd (memory_is_no_help (sym memory ∙ help))
asks_for_help arguments kind help (inr (inl among)) = subst (λ (k : ErrorKind). IsAmong k (fault_of command_line arguments)) help among
asks_for_help arguments kind help (inr (inr other)) = absurd (other.0 help)

asks_for_version : (arguments : List Text) (kind : ErrorKind) → kind ≡ DisplayVersion → WhyNot arguments kind → AskForVersion arguments
asks_for_version arguments kind version (inl memory) = absurd (memory_is_no_version (sym memory ∙ version))
asks_for_version arguments kind version (inr (inl among)) = subst (λ (k : ErrorKind). IsAmong k (fault_of command_line arguments)) version among
asks_for_version arguments kind version (inr (inr other)) = absurd (other.1 version)

asks_for_nothing : (arguments : List Text) (kind : ErrorKind) → kind ≢ DisplayHelp → kind ≢ DisplayVersion → kind ≢ OutOfMemory → WhyNot arguments kind → AskForNothing arguments
asks_for_nothing arguments kind no_help no_version no_memory (inl memory) = absurd (no_memory memory)
asks_for_nothing arguments kind no_help no_version no_memory (inr (inl among)) = inl (kind, among, no_help, no_version)
asks_for_nothing arguments kind no_help no_version no_memory (inr (inr other)) = inr other.2

pub told_serves : (arguments : List Text) (kind : ErrorKind) (before after : Reader) (output output' errors errors' : Writer) (ended : ℕ) →
    WhyNot arguments kind → after ≡ before → TellsOf kind (streams no_reader no_reader output output' errors errors') ended →
    Serves arguments (streams before after output output' errors errors') ended
told_serves arguments kind before after output output' errors errors' ended why kept (inl memory) = inr (inr (inr (inr (memory.0, memory.1, kept))))
told_serves arguments kind before after output output' errors errors' ended why kept (inr (inl help)) =
    inr (inl (asks_for_help arguments kind help.0 why, (help.1.0, (help.1.1.0, help.1.1.1, kept))))
told_serves arguments kind before after output output' errors errors' ended why kept (inr (inr (inl version))) =
    inr (inr (inl (asks_for_version arguments kind version.0 why, (version.1.0, version.1.1, kept))))
told_serves arguments kind before after output output' errors errors' ended why kept (inr (inr (inr other))) =
    inr (inr (inr (inl (asks_for_nothing arguments kind other.0 other.1 other.2 why, (other.3.0, other.3.1, other.3.2, kept)))))

-- with no reader, and so with any that was not read
explains_unread : (number : ℕ) (before after : Reader) (output output' errors errors' : Writer) (ended : ℕ) → after ≡ before →
    Explains number (streams no_reader no_reader output output' errors errors') ended → Explains number (streams before after output output' errors errors') ended
explains_unread number before after output output' errors errors' ended kept (inl named) = inl (named.0, named.1, (named.2.0, named.2.1, kept))
explains_unread number before after output output' errors errors' ended kept (inr none) = inr (none.0, (none.1.0, none.1.1, none.1.2, kept))

pub explained_serves : (arguments : List Text) (r : Request) (number : ℕ) (before after : Reader) (output output' errors errors' : Writer) (ended : ℕ) →
    r.explain ≡ Some number → AreTaken arguments r.options.settings → AskAs arguments r → is_contradictory r ≡ false → after ≡ before →
    Explains number (streams no_reader no_reader output output' errors errors') ended ⊎ LacksMemory (streams no_reader no_reader output output' errors errors') ended →
    Serves arguments (streams before after output output' errors errors') ended
explained_serves arguments r number before after output output' errors errors' ended asked taken as_asked clear kept (inl told) =
    let s = streams before after output output' errors errors' in
    inl (
      r,
      taken,
      as_asked,
      clear,
      subst (λ (o : Option ℕ). MatchOption o (RunsAsAsked r s ended) (λ n. Explains n s ended)) (sym asked)
          (explains_unread number before after output output' errors errors' ended kept told),
    )
explained_serves arguments r number before after output output' errors errors' ended asked taken as_asked clear kept (inr memory) =
    inr (inr (inr (inr (memory.0, memory.1, kept))))

is_none : (o : Option ℕ) → ((n : ℕ) → o ≡ Some n → ⊥) → o ≡ None
is_none None other = cc
is_none (Some n) other = absurd (other n (cc))

pub run_serves : (arguments : List Text) (r : Request) (s : Streams) (ended : ℕ) → ((n : ℕ) → r.explain ≡ Some n → ⊥) →
    AreTaken arguments r.options.settings → AskAs arguments r → is_contradictory r ≡ false → RunsAsAsked r s ended → Serves arguments s ended
run_serves arguments r s ended other taken as_asked clear ran =
    inl (r, taken, as_asked, clear, subst (λ (o : Option ℕ). MatchOption o (RunsAsAsked r s ended) (λ n. Explains n s ended)) (sym (is_none r.explain other)) ran)
