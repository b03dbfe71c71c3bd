-- `reading::get_all` meets its contract. Assumes nothing.
use Rattle.reading.proofs.Entries.{nobody, somebody, nothing_written, rounds_written}
use Rattle.reading.proofs.Steps.{does_get_all}
use Rattle.reading.proofs.get_all.Goals as goal

pub returns-in_default : goal.returns-in_default
returns-in_default c =
    λ α h g. does_get_all α g _ c.args.out.now _ c.args.k
    (nothing_written α c.args.k (nobody c.args.map.now α g c.args.k (h.0, h.4) c.find.ensures c.in_default.is) c.args.out.now)

pub returns : goal.returns
returns c =
    λ α h g. does_get_all α g _ c.args.out.now _ c.args.k
    (rounds_written c.args.map.now α c.args.k _ (somebody c.args.map.now α g c.args.k (h.0, h.4) c.find.ensures c.in-At.is) h.2 h.3 h.1 c.head.ensures c.size.ensures c.args.out.now c.copy.ensures)
