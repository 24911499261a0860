use Rattle.register.proofs.Holding.{asked-item}
use Rattle.tables.proofs.hold.Goals as goal

pub names_of-requires : goal.names_of-requires
names_of-requires c =
    asked-item _ _ _ _ c.args.read.now.read c.loop-x-test.true
