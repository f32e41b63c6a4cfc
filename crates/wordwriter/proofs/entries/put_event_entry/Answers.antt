use Rattle.wordwriter.proofs.EntryLaws as entries
use native.Mathlib.Omega.{arith}
use mathlib.Core.Path.{refl, sym, ◌∙◌}
use Rattle.lists.specs.Tab.{over}
use Rattle.wordwriter.proofs.entries.put_event_entry.Goals as goal

pub is_following-requires : goal.is_following-requires
is_following-requires c = let p = c.requires in (p.0, p.2, omega (arith, p.4, p.5))

pub returns-then-is_following : goal.returns-then-is_following
unfolding over
returns-then-is_following c = record { put = rw (entries.entry_follows c.args.s.now c.args.j (sym c.is_following.ensures ∙ c.if-is_following.true)) ((refl, refl)); room = (omega arith) }

pub event_at-e-requires : goal.event_at-e-requires
event_at-e-requires c = let p = c.requires in (p.2, omega (arith, p.4, p.5))

pub run_end-r-requires : goal.run_end-r-requires
run_end-r-requires c = let p = c.requires in (p.0, p.1, p.2, p.3, p.4, p.5)

pub returns : goal.returns
returns c = let x = c.event_at-e.ensures ∙ entries.event_is c.args.s.now c.args.z c.args.j c.requires.0 in record { put = rw (entries.entry_leads c.args.s.now c.args.j c.event_at-e.result c.run_end-r.result x c.run_end-r.ensures.run (sym c.is_following.ensures ∙ c.if-is_following.false)) (c.put_event.ensures.put); room = (c.put_event.ensures.room) }
