-- The rotation computed where every enqueue wears out, so that its node comes back at once. Assumes nothing.
use Prim.Native.Nat.{ℕ, zero, suc}
use mathlib.Core.Path.{◌≡◌, refl}
use mathlib.Core.List.{List, [], ◌∷◌}
use lib.ListN.{replicate, set}
use Rattle.lists.specs.Find.{least, around, any, count}
use Rattle.lists.specs.Tab.{tab, joined, over, front}
use Rattle.lists.specs.Word.{has, with, without, word_of}
use Rattle.image.specs.Form.{top_of, width_of, head_lines, own_threads, per_desk}
use Rattle.image.specs.Layout.{no_contents, no_heads, heads_of}
use Rattle.image.specs.Recovered.{largest, head_of, recovered, twins, has_twin, first_twin, dummy_of}
use Rattle.image.specs.Refusals.{startable}
use Rattle.machine.specs.Record.{blank_nodes, idle_threads}
use Rattle.machine.specs.Line.{line_at}
use Rattle.machine.specs.Start.{insert, risen, behind, last_of, start_with, start_of}
use Rattle.machine.specs.Retire.{next_free, released_at, released, others, retired}
use Rattle.machine.specs.Event.{event_at}
use Rattle.machine.specs.declared.Machine.{Machine}
use Rattle.machine.specs.declared.Event.{Event}
use Rattle.turns.specs.Turns.{after_all}

-- n nodes, one thread, the largest head index
abbrev pub worn : ℕ → Machine
worn n = start_of (record { form = 1; n = n; t = 0; heads = set no_heads 0 (top_of 1); nodes = no_contents }) 1

-- an enqueue, and the seven steps after which it is answered Worn out
abbrev pub enqueue : List Event
enqueue = record { kind = 1; number = 0; item = 7 } ∷ replicate 7 (record { kind = 3; number = 0; item = 0 })

-- the node last handed out behind each of c such enqueues
unfoldable pub given : ℕ → Machine → List ℕ
given zero m = []
given (suc c) m = let m' = after_all 0 m enqueue in m'.last ∷ given c m'

-- "going round past the end": the dummy, node 0, is passed over, it is not free
pub four_given : given 4 (worn 4) ≡ 1 ∷ 2 ∷ 3 ∷ 1 ∷ []
unfolding given after_all least around any count tab joined over front has with without word_of no_contents no_heads head_lines own_threads per_desk heads_of largest head_of recovered twins has_twin first_twin dummy_of
    startable blank_nodes idle_threads line_at insert risen behind last_of start_with next_free released_at released others retired top_of width_of event_at
four_given = refl

-- the round ends at the one last handed out itself: "Full is given as before"
pub same_given : given 2 (worn 2) ≡ 1 ∷ 1 ∷ []
unfolding given after_all least around any count tab joined over front has with without word_of no_contents no_heads head_lines own_threads per_desk heads_of largest head_of recovered twins has_twin first_twin dummy_of
    startable blank_nodes idle_threads line_at insert risen behind last_of start_with next_free released_at released others retired top_of width_of event_at
same_given = refl
