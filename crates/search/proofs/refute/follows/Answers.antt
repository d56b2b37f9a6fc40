use Rattle.search.proofs.Refuting.{deny_ready, follows_both, follows_reached}
use Rattle.search.proofs.refute.follows.Goals as goal

pub deny-requires : goal.deny-requires
deny-requires c =
    deny_ready c.requires.0 c.requires.1 c.requires.2 (c.fill.ensures.after (λ y e. e))

pub returns-then-deny : goal.returns-then-deny
returns-then-deny c =
    follows_both c.requires.0 c.requires.1 c.requires.2 (c.fill.ensures.after (λ y e. e)) c.deny.new.values c.deny.auto.values c.deny.result c.deny.ensures c.if-deny.true

pub returns : goal.returns
returns c =
    follows_reached c.requires.0 c.requires.1 c.requires.2 (c.fill.ensures.after (λ y e. e)) c.deny.new.values c.deny.auto.values
    c.deny.result c.deny.ensures c.if-deny.false c.reaches.result
    c.reaches.ensures
