mod RoundTrip
