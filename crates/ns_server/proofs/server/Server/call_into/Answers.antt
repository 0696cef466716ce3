use Rattle.ns_server.proofs.server.Server.call_into.Goals as goal

pub returns-in-0 : goal.returns-in-0
returns-in-0 g c = c.run.ensures

pub returns-in-1 : goal.returns-in-1
returns-in-1 g c = c.run-in-1.ensures

pub returns-in-2 : goal.returns-in-2
returns-in-2 g c = c.run-in-2.ensures

pub returns-in-3 : goal.returns-in-3
returns-in-3 g c = c.run-in-3.ensures

pub returns-in-4 : goal.returns-in-4
returns-in-4 g c = c.run-in-4.ensures

pub returns-in-5 : goal.returns-in-5
returns-in-5 g c = c.run-in-5.ensures

pub returns-in-6 : goal.returns-in-6
returns-in-6 g c = c.run-in-6.ensures

pub returns-in-7 : goal.returns-in-7
returns-in-7 g c = c.run-in-7.ensures

pub returns-in-8 : goal.returns-in-8
returns-in-8 g c = c.run-in-8.ensures

pub returns-in-9 : goal.returns-in-9
returns-in-9 g c = c.run-in-9.ensures

pub returns-in-10 : goal.returns-in-10
returns-in-10 g c = c.run-in-10.ensures

pub returns-in-11 : goal.returns-in-11
returns-in-11 g c = c.run-in-11.ensures

pub returns-in-12 : goal.returns-in-12
returns-in-12 g c = c.run-in-12.ensures

pub returns-in-13 : goal.returns-in-13
returns-in-13 g c = c.run-in-13.ensures

pub returns-in-14 : goal.returns-in-14
returns-in-14 g c = c.run-in-14.ensures

pub returns-in_default : goal.returns-in_default
returns-in_default g c = c.run-in_default.ensures
