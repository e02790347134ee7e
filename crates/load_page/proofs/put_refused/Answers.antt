-- The word, then one digit or two.
use Prim.Native.Nat.{ℕ, ◌≤◌}
use mathlib.Core.Path.{◌≡◌, refl}
use mathlib.Core.List.{List, ◌++◌}
use native.Mathlib.Omega.{arith}
use lib.ListN.{length, drop}
use lib.Seq.{sets}
use Rattle.records.proofs.Stores.{sets_copied}
use Rattle.load_page.proofs.Texts.{word, one_stored, two_stored}
use Rattle.load_page.proofs.put_refused.Goals as goal

-- the word stands at the start
word_stored : (out part : List ℕ) → 11 ≤ length out → part ≡ word → part ++ drop 8 out ≡ sets out 0 word
word_stored out part room same = sets_copied out word part 0 8 (omega arith) refl same

pub returns-then-n-lt10-clause-count : goal.returns-then-n-lt10-clause-count
returns-then-n-lt10-clause-count c =
    let stored = word_stored c.args.out.now c.copy_from_slice.new.self c.requires.1 c.copy_from_slice.ensures.after in
    (one_stored c.args.out.now _ c.args.n stored c.digit_of.result c.if-n-lt10.true c.digit_of.ensures).0

pub returns-then-n-lt10-clause-text : goal.returns-then-n-lt10-clause-text
returns-then-n-lt10-clause-text c =
    let stored = word_stored c.args.out.now c.copy_from_slice.new.self c.requires.1 c.copy_from_slice.ensures.after in
    (one_stored c.args.out.now _ c.args.n stored c.digit_of.result c.if-n-lt10.true c.digit_of.ensures).1

pub returns-clause-count : goal.returns-clause-count
returns-clause-count c =
    let stored = word_stored c.args.out.now c.copy_from_slice.new.self c.requires.1 c.copy_from_slice.ensures.after in
    (two_stored c.args.out.now _ c.args.n stored c.digit_of-2.result c.digit_of-3.result c.if-n-lt10.false c.requires.0 c.digit_of-2.ensures c.digit_of-3.ensures).0

pub returns-clause-text : goal.returns-clause-text
returns-clause-text c =
    let stored = word_stored c.args.out.now c.copy_from_slice.new.self c.requires.1 c.copy_from_slice.ensures.after in
    (two_stored c.args.out.now _ c.args.n stored c.digit_of-2.result c.digit_of-3.result c.if-n-lt10.false c.requires.0 c.digit_of-2.ensures c.digit_of-3.ensures).1
