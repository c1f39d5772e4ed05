use Rattle.std.proofs.Common.{arith}
use Rattle.std.proofs.lemmas.Str.Pattern.{split_parts}
use Rattle.monitor.proofs.WordLemmas.{words-one, words-cut}
use Rattle.monitor.proofs.words.split.Goals as goal

pub returns-in-Some : goal.returns-in-Some
returns-in-Some c =
    let parts = split_parts 32 c.args.line.now c.split_once.result c.split_once.ensures.cases (omega arith) in
    let here = rw c.in-Some.is at parts in
    rw here.0 (words-cut c.in-Some.word.now c.in-Some.rest.now here.1)

pub returns-in-None : goal.returns-in-None
returns-in-None c =
    let parts = split_parts 32 c.args.line.now c.split_once.result c.split_once.ensures.cases (omega arith) in
    let here = rw c.in-None.is at parts in
    words-one c.args.line.now here
