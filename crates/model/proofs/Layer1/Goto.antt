-- A thread moves on, and nothing else changes.
use mathlib.Core.Path.{◌≡◌, sym, subst, subst₂}
use Prim.Native.Nat.{ℕ}
use Rattle.model.specs.Core.{Th, Core, busy}
use Rattle.model.specs.Changes.{set_th}
use Rattle.model.specs.Places.{owns_e, owns_d}
use Rattle.model.proofs.Basics.{upd_ind, facet}
use Rattle.model.proofs.Layer1.Ghost.{poss, WaitI, Gh, Inv, PlaceI, LiveI, ixs, Refs, Mine}

module _ (m : Core) (g : Gh) (i : Inv m g) (t : ℕ) (s : Th)
    (bz : busy s ≡ busy (m.thr t)) (oe : owns_e s ≡ owns_e (m.thr t)) (od : owns_d s ≡ owns_d (m.thr t))
    (rf : Refs g.who g.idx (g.base t) g.hp g.tp g.len s) (mn : Mine (ixs m.node) m.next s) where
  pub goto : Inv (set_th m t s) g
  goto = record {
    log = i.log;
    place = subst₂ (PlaceI g.len g.hp g.who g.own m.free m.wait m.held)
        (sym (facet owns_e m.thr t s oe)) (sym (facet owns_d m.thr t s od)) i.place;
    link = i.link;
    alive = subst (LiveI g.len g.hp g.who (poss g.own) g.base m.conf.threads) (sym (facet busy m.thr t s bz)) i.alive;
    waits = subst (WaitI g.own g.base m.wait) (sym (facet busy m.thr t s bz)) i.waits;
    threads = record {
      refs = λ u. upd_ind m.thr t s (λ u s. Refs g.who g.idx (g.base u) g.hp g.tp g.len s) u rf (λ ne. i.threads.refs u);
      mine = λ u. upd_ind m.thr t s (λ u s. Mine (ixs m.node) m.next s) u mn (λ ne. i.threads.mine u);
    };
  }
