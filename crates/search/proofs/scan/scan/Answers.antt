use borrow.Author.Rules.{rules}
use Rattle.search.proofs.Scanning.{finds_whole}
use Rattle.search.proofs.scan.scan.Goals as goal

pub returns-in_default-2 : goal.returns-in_default-2
returns-in_default-2 c =
    finds_whole c.args.words.now c.args.values.now c.args.from c.scan_from.result c.requires.1 (search rules) c.scan_from.ensures
