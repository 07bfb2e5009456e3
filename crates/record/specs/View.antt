-- A record as plain values. Assumes nothing.
use Rattle.record.specs.State.{State}
use Rattle.record.specs.declared.state.Record.{Record}

unfoldable pub view : Record → State
view r = record {
  count = r.docket.count;
  sizes = r.docket.sizes;
  picks = r.docket.picks;
  placed = r.docket.placed;
  scopes = r.scopes;
  crossed = r.crossed;
  log = r.log.items;
}
