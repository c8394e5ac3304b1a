use Rattle.std.proofs.Common.{◌≡◌, ◌<◌, ◌≤◌, not, eqb, length, get_or, Some, sym, ap, ◌∙◌, arith}
use Rattle.std.proofs.lemmas.List.Sums.{prefix_len-drop_yes, prefix_len-drop_no, prefix_len-drop_all}
use Rattle.std.proofs.lemmas.Bool.{eq-eqb, ne_eqb}
use Rattle.text.specs.Text.{before}
use Rattle.text.proofs.Scans.{inside, nowhere}
use Rattle.text.proofs.reads.find.Goals as goal

pub returns-then-byte-stop : goal.returns-then-byte-stop
returns-then-byte-stop c =
    let xs = c.args.bytes.now in
    let stop = c.args.stop in
    let i = c.loop-i.i in
    let less : i < length xs = omega arith in
    let stops = prefix_len-drop_no (λ b. not (eqb b stop)) xs i 0 less (ap not (eq-eqb (get_or xs i 0) stop c.if-byte-stop.true)) in
    let here : before stop xs ≡ i = omega arith in
    sym (inside (λ b. eqb b stop) xs (omega arith) ∙ ap Some here)

pub loop-i-preserved : goal.loop-i-preserved
loop-i-preserved c =
    let xs = c.args.bytes.now in
    let stop = c.args.stop in
    let i = c.loop-i.i in
    let less : i < length xs = omega arith in
    let goes = prefix_len-drop_yes (λ b. not (eqb b stop)) xs i 0 less (ap not (ne_eqb (get_or xs i 0) stop c.if-byte-stop.false)) in
    omega arith

pub returns : goal.returns
returns c =
    let xs = c.args.bytes.now in
    let stop = c.args.stop in
    let ends = prefix_len-drop_all (λ b. not (eqb b stop)) xs c.loop-i.i (omega arith) in
    let past : length xs ≤ before stop xs = omega arith in
    sym (nowhere (λ b. eqb b stop) xs past)
