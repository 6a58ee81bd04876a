use Rattle.cv_io.proofs.Held.{entry_held, within_held, Asks-entry, held_of-asks}
use Rattle.cv_io.proofs.classes.ask.Goals as goal

pub ask_entry-requires-clause-held : goal.ask_entry-requires-clause-held
ask_entry-requires-clause-held g c = entry_held _ c.args.trusted.now.items c.args.class _ c.requires.held c.index_mut.ensures.value

pub returns-clause-asks : goal.returns-clause-asks
returns-clause-asks g c =
    Asks-entry _ c.args.trusted.now.items c.args.class _ _ _ _ _
    (within_held _ c.args.trusted.now.items c.args.class c.requires.held) c.index_mut.ensures.value c.ask_entry.ensures

pub returns-clause-held : goal.returns-clause-held
returns-clause-held g c =
    held_of-asks _ _ _ _ _ _
    (Asks-entry _ c.args.trusted.now.items c.args.class _ _ _ _ _
    (within_held _ c.args.trusted.now.items c.args.class c.requires.held) c.index_mut.ensures.value c.ask_entry.ensures)
