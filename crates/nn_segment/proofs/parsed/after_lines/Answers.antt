use Rattle.std.proofs.Common.{arith, ◌≡◌, ◌+◌, drop, map, length, Some, Ok, Err, sym, ap, ◌∙◌, subst, inl, inr}
use Rattle.std.specs.Prelude.{string_bytes}
use Rattle.nn_segment.specs.declared.fault.SegmentFault.TheVariants.{NoEnd, NameMismatch}
use Rattle.nn_segment.specs.Lines.{reads_of}
use Rattle.nn_segment.specs.Segment.{ends_once}
use Rattle.nn_segment.specs.Reading.{lines_fault, names_txids, fault_of_line, read_segment}
use Rattle.nn_segment.specs.Outcome.{StopsAt}
use Rattle.nn_segment.proofs.ReadingLemmas.{by_lines, refused, accepted, order_refuses, bad_refuses, end_refuses, name_refuses, none_refuses}
use Rattle.nn_segment.proofs.SegmentLemmas.{read_is_segment}
use Rattle.nn_segment.proofs.parsed.after_lines.Goals as goal

pub returns-in-Some : goal.returns-in-Some
returns-in-Some c =
    let name = string_bytes c.args.name in
    let bytes = c.args.bytes.items in
    let order = ap (λ ts. lines_fault (map Ok ts)) (sym c.deref.ensures.value) ∙ sym c.in-Some.ensures in
    let e = order_refuses c.args.txids (reads_of bytes) c.args.txs.items c.args.bad c.in-Some.fault c.requires.read order in
    inl (sym (refused name bytes c.in-Some.fault (by_lines name bytes c.args.txids c.requires.named c.requires.bytes ∙ e)))

pub returns-in-Some-bad : goal.returns-in-Some-bad
returns-in-Some-bad c =
    let name = string_bytes c.args.name in
    let bytes = c.args.bytes.items in
    let txs = c.args.txs.items in
    let fault = c.in-Some-bad.fault in
    let order = ap (λ ts. lines_fault (map Ok ts)) (sym c.deref.ensures.value) ∙ sym c.in_default.ensures in
    let stops = subst (λ b. StopsAt (reads_of bytes) txs b) c.in-Some-bad.is c.requires.read in
    let size : c.len.result ≡ length txs = omega (arith, c.len.ensures, c.args.txs.ok.0) in
    let answer = c.bad_line.ensures ∙ ap (λ n. fault_of_line (n + 1) fault) size in
    elim (bad_refuses c.args.txids (reads_of bytes) txs fault stops order) [
      | inl e ↦ inl (ap Err answer ∙ sym (refused name bytes _ (by_lines name bytes c.args.txids c.requires.named c.requires.bytes ∙ e)))
      | inr memory ↦ inr (c.in-Some-bad.is ∙ ap Some memory, ap Err (answer ∙ ap (fault_of_line (length txs + 1)) memory))
    ]

pub returns-then-not-ends_once : goal.returns-then-not-ends_once
returns-then-not-ends_once c =
    let name = string_bytes c.args.name in
    let bytes = c.args.bytes.items in
    let txs = c.args.txs.items in
    let order = ap (λ ts. lines_fault (map Ok ts)) (sym c.deref.ensures.value) ∙ sym c.in_default.ensures in
    let stops = subst (λ b. StopsAt (reads_of bytes) txs b) c.in_default-bad.is c.requires.read in
    let ends = ap (λ ts. ends_once (drop 1 ts)) (sym c.deref-2.ensures.value) ∙ ap ends_once (sym c.later.ensures) ∙ sym c.ends_once.ensures ∙ c.if-not-ends_once.true in
    inl (sym (refused name bytes NoEnd (by_lines name bytes c.args.txids c.requires.named c.requires.bytes ∙ end_refuses c.args.txids (reads_of bytes) txs stops order ends)))

pub returns-then-not-is_named : goal.returns-then-not-is_named
returns-then-not-is_named c =
    let name = string_bytes c.args.name in
    let bytes = c.args.bytes.items in
    let txs = c.args.txs.items in
    let order = ap (λ ts. lines_fault (map Ok ts)) (sym c.deref.ensures.value) ∙ sym c.in_default.ensures in
    let stops = subst (λ b. StopsAt (reads_of bytes) txs b) c.in_default-bad.is c.requires.read in
    let ends = ap (λ ts. ends_once (drop 1 ts)) (sym c.deref-2.ensures.value) ∙ ap ends_once (sym c.later.ensures) ∙ sym c.ends_once.ensures ∙ c.if-not-ends_once.false in
    let named = ap (names_txids (Some c.args.txids)) (sym c.deref-3.ensures.value) ∙ sym c.is_named.ensures ∙ c.if-not-is_named.true in
    inl (sym (refused name bytes NameMismatch (by_lines name bytes c.args.txids c.requires.named c.requires.bytes ∙ name_refuses c.args.txids (reads_of bytes) txs stops order ends named)))

read : (c : goal.Else-not-is_named) → read_segment (string_bytes c.args.name) c.args.bytes.items ≡ Ok (record { name = string_bytes c.args.name; bytes = c.args.bytes.items; txs = c.args.txs.items })
read c =
    let name = string_bytes c.args.name in
    let bytes = c.args.bytes.items in
    let txs = c.args.txs.items in
    let order = ap (λ ts. lines_fault (map Ok ts)) (sym c.deref.ensures.value) ∙ sym c.in_default.ensures in
    let stops = subst (λ b. StopsAt (reads_of bytes) txs b) c.in_default-bad.is c.requires.read in
    let ends = ap (λ ts. ends_once (drop 1 ts)) (sym c.deref-2.ensures.value) ∙ ap ends_once (sym c.later.ensures) ∙ sym c.ends_once.ensures ∙ c.if-not-ends_once.false in
    let named = ap (names_txids (Some c.args.txids)) (sym c.deref-3.ensures.value) ∙ sym c.is_named.ensures ∙ c.if-not-is_named.false in
    accepted name bytes txs (by_lines name bytes c.args.txids c.requires.named c.requires.bytes ∙ none_refuses c.args.txids (reads_of bytes) txs stops order ends named) stops

pub invariant_of-result : goal.invariant_of-result
invariant_of-result c = (read_is_segment _ _ _ (read c)).0

pub returns : goal.returns
returns c = inl (sym (read c))
