-- Single changes of the core: all but one thing stays.
use Rattle.std.specs.Prelude.{Bool, List, ℕ}
use Rattle.std.proofs.Math.Option.{Option, some}
use Rattle.model.specs.Basics.{upd}
use Rattle.model.specs.Core.{Core, Node, Th}

-- thread t is at s
abbrev pub set_th : Core → ℕ → Th → Core
set_th m t s = record {
  conf = m.conf;
  node = m.node;
  next = m.next;
  hnode = m.hnode;
  hidx = m.hidx;
  tail = m.tail;
  marks = m.marks;
  last = m.last;
  free = m.free;
  wait = m.wait;
  held = m.held;
  thr = upd m.thr t s;
}

-- node n's link
abbrev pub set_next : Core → ℕ → Option ℕ → Core
set_next m n o = record {
  conf = m.conf;
  node = m.node;
  next = upd m.next n o;
  hnode = m.hnode;
  hidx = m.hidx;
  tail = m.tail;
  marks = m.marks;
  last = m.last;
  free = m.free;
  wait = m.wait;
  held = m.held;
  thr = m.thr;
}

-- node n's content
abbrev pub store : Core → ℕ → Node → Core
store m n c = record {
  conf = m.conf;
  node = upd m.node n c;
  next = m.next;
  hnode = m.hnode;
  hidx = m.hidx;
  tail = m.tail;
  marks = m.marks;
  last = m.last;
  free = m.free;
  wait = m.wait;
  held = m.held;
  thr = m.thr;
}

-- Head, number and index
abbrev pub set_head : Core → ℕ → ℕ → Core
set_head m h i = record {
  conf = m.conf;
  node = m.node;
  next = m.next;
  hnode = h;
  hidx = i;
  tail = m.tail;
  marks = m.marks;
  last = m.last;
  free = m.free;
  wait = m.wait;
  held = m.held;
  thr = m.thr;
}

-- Tail
abbrev pub set_tail : Core → ℕ → Core
set_tail m x = record {
  conf = m.conf;
  node = m.node;
  next = m.next;
  hnode = m.hnode;
  hidx = m.hidx;
  tail = x;
  marks = m.marks;
  last = m.last;
  free = m.free;
  wait = m.wait;
  held = m.held;
  thr = m.thr;
}

-- the free and the waiting nodes
abbrev pub set_free : Core → (ℕ → Bool) → (ℕ → List ℕ) → Core
set_free m f w = record {
  conf = m.conf;
  node = m.node;
  next = m.next;
  hnode = m.hnode;
  hidx = m.hidx;
  tail = m.tail;
  marks = m.marks;
  last = m.last;
  free = f;
  wait = w;
  held = m.held;
  thr = m.thr;
}

-- the node last handed out
abbrev pub set_last : Core → ℕ → Core
set_last m n = record {
  conf = m.conf;
  node = m.node;
  next = m.next;
  hnode = m.hnode;
  hidx = m.hidx;
  tail = m.tail;
  marks = m.marks;
  last = n;
  free = m.free;
  wait = m.wait;
  held = m.held;
  thr = m.thr;
}

-- thread t holds node h
abbrev pub set_held : Core → ℕ → ℕ → Core
set_held m t h = record {
  conf = m.conf;
  node = m.node;
  next = m.next;
  hnode = m.hnode;
  hidx = m.hidx;
  tail = m.tail;
  marks = m.marks;
  last = m.last;
  free = m.free;
  wait = m.wait;
  held = upd m.held t (some h);
  thr = m.thr;
}

-- thread t's index line (`split`)
abbrev pub set_mark : Core → ℕ → ℕ → Core
set_mark m t i = record {
  conf = m.conf;
  node = m.node;
  next = m.next;
  hnode = m.hnode;
  hidx = m.hidx;
  tail = m.tail;
  marks = upd m.marks t i;
  last = m.last;
  free = m.free;
  wait = m.wait;
  held = m.held;
  thr = m.thr;
}
