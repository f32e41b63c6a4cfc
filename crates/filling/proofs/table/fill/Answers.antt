use Rattle.filling.proofs.table.fill.Goals as goal

pub fill_told-requires : goal.fill_told-requires
fill_told-requires c = let z = c.requires in record { n_bound = (z.0, z.1, z.2, z.3, z.4, z.5, z.6); sheet = (c.sheet_of-s.ensures.sheet, c.sheet_of-s.ensures.small) }

pub returns : goal.returns
returns c = record { next = c.fill_told.ensures.next; place = c.fill_told.ensures.place; bytes = c.fill_told.ensures.bytes; onward = c.fill_told.ensures.onward }
