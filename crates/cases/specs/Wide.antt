-- Request 107: the starred sequences on image version 2, and the top of 64 bits.
use Rattle.std.specs.Prelude.{ℕ, ◌+◌, ◌*◌, ◌/◌, List, [], ◌∷◌, ◌++◌, take, drop, replicate}
use Rattle.image.specs.Bytes.{at1}
use Rattle.page.specs.Endings.{endings}
use Rattle.converting.specs.Converted.{bytes_in}
use Rattle.cases.specs.Inputs.{four, schedule}
use Rattle.cases.specs.Starred.{Case, p1}

-- a schedule of version 1 with its image in version 2: the head of eight bytes, the image of 10 + 9N converted, the events
unfoldable pub widely : List ℕ → List ℕ
widely s =
    let image = 10 + 9 * at1 s 13 in
    take 8 s ++ bytes_in 2 (take image (drop 8 s)) ++ drop (8 + image) s

-- the same page, answer and places
unfoldable pub on_wide : Case → Case
on_wide c = record { schedule = widely c.schedule; page = c.page; reply = c.reply; places = c.places; held = c.held }

-- "UQI", version 2, N, head index h, nodes of thirteen zero bytes
unfoldable pub wide_nodes : ℕ → ℕ → List ℕ
wide_nodes n h = 85 ∷ 81 ∷ 73 ∷ 2 ∷ 0 ∷ n ∷ four h ++ four (h / 4294967296) ++ replicate (13 * n) 0

-- what version 2 has of its own
unfoldable pub widest : List Case
widest =
    -- P10 at the top of 64 bits: an enqueue answers Worn out at its seventh step
    record {
      schedule = schedule 1 (wide_nodes 2 18446744073709551615) (p1 7);
      page = "UQS 1 threads 1 nodes 2 events 8 endings 4\n0 18446744073709551615 -\n1 18446744073709551615 -\n2 18446744073709551615 -\n3 18446744073709551615 -\n";
      reply = 3;
      places = 1 ∷ 1 ∷ 0 ∷ 0 ∷ 0 ∷ 0 ∷ [];
      held = [];
    }
    -- at the top of 32 bits it goes on: linked with index 4,294,967,296 and persisted
    ∷ record {
      schedule = schedule 1 (wide_nodes 2 4294967295) (p1 12);
      page = "UQS 1 threads 1 nodes 2 events 13 endings 2\n0 4294967295 7\n1 4294967295 7\n";
      reply = 1;
      places = 2 ∷ 0 ∷ 0 ∷ 0 ∷ 0 ∷ 0 ∷ [];
      held = [];
    }
    ∷ []
