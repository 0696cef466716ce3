use Rattle.ns_status.proofs.devices.Devices.place.Goals as goal

pub returns : goal.returns
returns c = rw (← c.self.view_is) c.get_index_of.ensures.index
