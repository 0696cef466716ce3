mod Stays
