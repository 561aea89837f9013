use Rattle.vn_vmove.proofs.Empty.{empty-sound}
use Rattle.vn_vmove.proofs.tables.Tables.new.Goals as goal

pub returns-clause-sound : goal.returns-clause-sound
returns-clause-sound c = empty-sound _ (record {
  ifs = c.in_ok-links.ensures.ifs;
  pairs = c.in_ok-links.ensures.pairs;
  loops = c.in_ok-links.ensures.loops;
  addrs = c.in_ok-networks.ensures.addrs;
  routes = c.in_ok-networks.ensures.routes;
  arp = c.in_ok-networks.ensures.arp;
  pings = c.in_ok-ends.ensures.pings;
  socks = c.in_ok-ends.ensures.socks;
  wheel = c.in_ok-ends.ensures.wheel;
  declared = c.in_ok-vars.ensures.declared;
  vars = c.in_ok-vars.ensures.stacks;
  tallies = c.in_ok-tallies.ensures;
})
